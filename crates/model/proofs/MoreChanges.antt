-- More changes keep what fewer keep, where positions never fall. By recursion over the positions.
use mathlib.Core.Path.{◌≡◌, refl, sym, subst, ◌∙◌}
use mathlib.Core.Bool.{Bool, true, false, cond, and-eq-true_iff, false≢true}
use mathlib.Core.List.{List, [], ◌∷◌}
use mathlib.Core.Logic.{◌↔◌}
use Prim.Native.Nat.{ℕ, suc}
use native.Mathlib.Omega.{arith}
use lib.ListN.{get_or, drop}
use lib.IntN.{ℤ}
use Rattle.model.specs.Model.{within, kept, select}
use Rattle.model.specs.LastYes.{Climbs}
use Rattle.model.specs.Verdict.{next_of}
use Rattle.base.proofs.Bools.{after_one}
use Rattle.base.proofs.Integers.{AtMostℤ, at_most}
use Rattle.model.proofs.Positions.{within_earlier, within_later}
use Rattle.model.proofs.LastYes.{climbs_from}

-- ---- the positions of a set, one opening at a time

-- the selection of any list at an empty set is empty
pub select_empty : {A : Type 0} (l : List A) → select l [] ≡ []
unfolding select
select_empty [] = refl
select_empty (a ∷ l) = refl

-- a selection from a list is its first entry, if that is in the set, and the rest's selection
pub select_step : {A : Type 0} (a : A) (l : List A) (cs : List Bool) → select (a ∷ l) cs ≡ cond (get_or cs 0 false) (a ∷ select l (drop 1 cs)) (select l (drop 1 cs))
unfolding select
select_step a l [] = sym (select_empty l)
select_step a l (false ∷ cs) = refl
select_step a l (true ∷ cs) = refl

-- ---- positions that never fall

-- any place behind `prev`, the end included, is not before it
pub next_behind : (end prev : ℤ) (ss : List ℤ) (cs : List Bool) → Climbs end prev ss → AtMostℤ prev (next_of end (select ss cs))
unfolding select
next_behind end prev [] cs c = at_most prev end c
next_behind end prev (s ∷ ss) [] c = ends (s ∷ ss) prev c
  where
    ends : (ss : List ℤ) (prev : ℤ) → Climbs end prev ss → AtMostℤ prev end
    ends [] prev c = at_most prev end c
    ends (s ∷ ss) prev c = omega (arith, at_most prev s c.0, ends ss s c.1)
next_behind end prev (s ∷ ss) (false ∷ cs) c = next_behind end prev ss cs (climbs_from end prev s ss (at_most prev s c.0) c.1)
next_behind end prev (s ∷ ss) (true ∷ cs) c = at_most prev s c.0

-- ---- keeping

module _ (life end : ℤ) where
  -- a first change keeps the part if it is within the life and the others keep it from there on
  pub kept_cons : (prev s : ℤ) (ss : List ℤ) → (kept life end prev (s ∷ ss) ≡ true) ↔ ((within life prev s ≡ true) × (kept life end s ss ≡ true))
  unfolding kept
  kept_cons prev s ss = and-eq-true_iff (within life prev s) (kept life end s ss)

  -- where the changes keep the part, the first, or the end, is within the life
  pub kept_next : (prev : ℤ) (ss : List ℤ) → kept life end prev ss ≡ true → within life prev (next_of end ss) ≡ true
  kept_next prev [] k = unfold kept in k
  kept_next prev (s ∷ ss) k = ((kept_cons prev s ss).0 k).0

  -- and they keep it from any other change on that this is within the life of, as from a later one
  pub kept_from : (p q : ℤ) (ss : List ℤ) → kept life end p ss ≡ true → within life q (next_of end ss) ≡ true → kept life end q ss ≡ true
  kept_from p q [] k w = unfold kept in w
  kept_from p q (s ∷ ss) k w = (kept_cons q s ss).1 (w, ((kept_cons p s ss).0 k).1)

  kept_later : (p q : ℤ) (ss : List ℤ) → AtMostℤ p q → kept life end p ss ≡ true → kept life end q ss ≡ true
  kept_later p q ss h k = kept_from p q ss k (within_later life p q (next_of end ss) h (kept_next p ss k))

  -- where positions never fall, a change set with more changes keeps what one with fewer keeps
  pub kept_more : (prev : ℤ) (ss : List ℤ) (cs ds : List Bool) → Climbs end prev ss → ((i : ℕ) → get_or cs i false ≡ true → get_or ds i false ≡ true)
      → kept life end prev (select ss cs) ≡ true → kept life end prev (select ss ds) ≡ true
  kept_more prev [] cs ds c f k = unfold select in k
  kept_more prev (s ∷ ss) cs ds c f k =
      rw (select_step s ss ds)
      (go (get_or cs 0 false) (get_or ds 0 false) (f 0) (subst (λ (l : List ℤ). kept life end prev l ≡ true) (select_step s ss cs) k)
      (λ p h. kept_more p ss (drop 1 cs) (drop 1 ds) h (λ i t. after_one ds i false ∙ f (suc i) (sym (after_one cs i false) ∙ t))))
    where
      xs : List ℤ
      xs = select ss (drop 1 cs)

      ys : List ℤ
      ys = select ss (drop 1 ds)

      go : (t u : Bool) → (t ≡ true → u ≡ true) → kept life end prev (cond t (s ∷ xs) xs) ≡ true
          → ((p : ℤ) → Climbs end p ss → kept life end p xs ≡ true → kept life end p ys ≡ true) → kept life end prev (cond u (s ∷ ys) ys) ≡ true
      go false false g k r = r prev (climbs_from end prev s ss (at_most prev s c.0) c.1) k
      go true false g k r = absurd (false≢true (g refl))
      go false true g k r =
          (kept_cons prev s ys).1
          (within_earlier life prev s (next_of end xs) (next_behind end s ss (drop 1 cs) c.1) (kept_next prev xs k), r s c.1 (kept_later prev s xs (at_most prev s c.0) k))
      go true true g k r = let d = (kept_cons prev s xs).0 k in (kept_cons prev s ys).1 (d.0, r s c.1 d.1)
