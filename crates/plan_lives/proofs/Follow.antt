-- Following one part's changes over the openings up to a position: after i openings, the first gap so far and what the rest gives are what the whole gives; and so of the last change. By one unfolding of the gaps.
use Prim.Native.Nat.{ℕ, zero, suc, ◌+◌, ◌≤◌, ◌<◌}
use mathlib.Core.Path.{◌≡◌, refl, sym, ap, ◌∙◌}
use mathlib.Core.Bool.{Bool, true, false, cond, false≢true}
use mathlib.Core.List.{List, [], ◌∷◌}
use native.Mathlib.Omega.{arith}
use native.Mathlib.Numerals.{add-one}
use lib.ListN.{length, get_or, drop, drop_of_length-le}
use lib.Seq.{drop-nil}
use lib.IntN.{ℤ, pos}
use Rattle.std.specs.Prelude.{Option, Some, None}
use Rattle.std.specs.Option.{option_or}
use Rattle.model.specs.Model.{Job, positions, within, due_of_lem, select}
use Rattle.model.specs.Verdict.{Gaps, in_time_lem2, too_long, last_of}
use Rattle.plan_lives.specs.Views.{model_gaps}
use Rattle.plan_lives.specs.Steps.{gap_of, first_long_lem, gaps_to}

-- ---- a set of openings, from opening i on

module _ {A : Type 0} where
  select_none : (l : List A) → select l [] ≡ []
  unfolding select
  select_none [] = refl
  select_none (x ∷ l) = refl

  -- a place outside the set leaves the selection from there on as that from the next place
  pub select_skip : (l : List A) (cs : List Bool) (i : ℕ) → get_or cs i false ≡ false → select (drop i l) (drop i cs) ≡ select (drop (suc i) l) (drop (suc i) cs)
  unfolding select
  select_skip [] cs i e = rw (drop-nil i)
  select_skip (x ∷ l) [] i e = rw (drop-nil i) (select_none (drop i (x ∷ l)) ∙ sym (select_none (drop i l)))
  select_skip (x ∷ l) (true ∷ cs) zero e = absurd (false≢true (sym e))
  select_skip (x ∷ l) (false ∷ cs) zero e = refl
  select_skip (x ∷ l) (c ∷ cs) (suc i) e = select_skip l cs i e

  -- a place of the set puts its entry in front of the selection from the next place
  pub select-take : (l : List A) (cs : List Bool) (i : ℕ) (d : A) → i < length l → get_or cs i false ≡ true → select (drop i l) (drop i cs) ≡ get_or l i d ∷ select (drop (suc i) l) (drop (suc i) cs)
  unfolding select
  select-take [] cs i d h e = absurd (omega arith)
  select-take (x ∷ l) [] zero d h e = absurd (false≢true e)
  select-take (x ∷ l) [] (suc i) d h e = absurd (false≢true e)
  select-take (x ∷ l) (true ∷ cs) zero d h e = refl
  select-take (x ∷ l) (false ∷ cs) zero d h e = absurd (false≢true e)
  select-take (x ∷ l) (c ∷ cs) (suc i) d h e = select-take l cs i d (omega arith) e

-- ---- gaps

first_assoc : (a b c : Gaps) → first_long_lem a (first_long_lem b c) ≡ first_long_lem (first_long_lem a b) c
first_assoc in_time_lem2 b c = refl
first_assoc (too_long due) b c = refl

-- the code's first due step of two is that of the first gap that is too long
pub first_or : (a b : Option ℕ) → model_gaps (option_or a b) ≡ first_long_lem (model_gaps a) (model_gaps b)
first_or None b = refl
first_or (Some due) b = refl

module _ (job : Job) (to life : ℤ) where
  gap_end : (prev : ℤ) → gaps_to job to life prev [] ≡ gap_of job life prev to
  unfolding gaps_to
  gap_end prev = refl

  gap_next : (prev s : ℤ) (ss : List ℤ) → gaps_to job to life prev (s ∷ ss) ≡ first_long_lem (gap_of job life prev s) (gaps_to job to life s ss)
  unfolding gaps_to
  gap_next prev s ss = go (within life prev s)
    where
      go : (t : Bool) → cond t (gaps_to job to life s ss) (too_long (due_of_lem job life prev)) ≡ first_long_lem (cond t in_time_lem2 (too_long (due_of_lem job life prev))) (gaps_to job to life s ss)
      go true = refl
      go false = refl

  -- after i openings: the last change so far is at `prev`, and `late` is the first long gap so far
  pub record Follows (cs : List Bool) (first : ℤ) (i : ℕ) (prev : ℤ) (late : Gaps) : Type 0 where
    pub gaps : first_long_lem late (gaps_to job to life prev (select (drop i (positions job)) (drop i cs))) ≡ gaps_to job to life first (select (positions job) cs)
    pub last : last_of prev (select (drop i (positions job)) (drop i cs)) ≡ last_of first (select (positions job) cs)

  module _ (cs : List Bool) (first : ℤ) (i : ℕ) (prev : ℤ) (late : Gaps) (f : Follows cs first i prev late) where
    -- an opening without a change leaves the last change and the first long gap as they were
    pub follow_skip : get_or cs i false ≡ false → Follows cs first (i + 1) prev late
    follow_skip e = record { gaps = rw (add-one, ← select_skip (positions job) cs i e) f.gaps; last = rw (add-one, ← select_skip (positions job) cs i e) f.last }

    -- an opening with a change adds the gap up to it, and is the last change from there on
    pub follow_change : (s : ℤ) (g : Gaps) → i < length (positions job) → get_or cs i false ≡ true → s ≡ get_or (positions job) i (pos 0)
        → g ≡ first_long_lem late (gap_of job life prev s) → Follows cs first (i + 1) s g
    follow_change s g h e p q =
        let rest = select (drop (suc i) (positions job)) (drop (suc i) cs) in
        let next : select (drop i (positions job)) (drop i cs) ≡ s ∷ rest = rw p (select-take (positions job) cs i (pos 0) h e) in
        record {
          gaps = rw (add-one, q)
              (sym (first_assoc late (gap_of job life prev s) (gaps_to job to life s rest))
              ∙ ap (first_long_lem late) (sym (ap (gaps_to job to life prev) next ∙ gap_next prev s rest)) ∙ f.gaps);
          last = rw add-one (sym (ap (last_of prev) next) ∙ f.last);
        }

    none : length (positions job) ≤ i → select (drop i (positions job)) (drop i cs) ≡ []
    unfolding select
    none h = rw (drop_of_length-le (positions job) {i = i} h)

    -- after all openings, the gap up to the end completes the first long gap of the part
    pub follow_end : length (positions job) ≤ i → first_long_lem late (gap_of job life prev to) ≡ gaps_to job to life first (select (positions job) cs)
    follow_end h = ap (first_long_lem late) (sym (ap (gaps_to job to life prev) (none h) ∙ gap_end prev)) ∙ f.gaps

    -- after all openings, the change followed last is the last of the part's changes
    pub follow_last : length (positions job) ≤ i → prev ≡ last_of first (select (positions job) cs)
    follow_last h = sym (ap (last_of prev) (none h)) ∙ f.last
