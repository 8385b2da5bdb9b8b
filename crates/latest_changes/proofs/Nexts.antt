-- The stops after each opening, from the last opening to the first: the entries from opening i on are there, with the first stop from it on at hand. By one unfolding of the positions of a set.
use Prim.Native.Nat.{ℕ, suc, ◌-◌, ◌≤◌, ◌<◌}
use mathlib.Core.Path.{◌≡◌, refl, sym, ap, subst, ◌∙◌}
use mathlib.Core.Bool.{Bool, true, false, cond}
use mathlib.Core.List.{List, ◌∷◌}
use native.Mathlib.Omega.{arith}
use native.Mathlib.Nat.{add-zero}
use native.Mathlib.Numerals.{add-one}
use native.Mathlib.Decide.{ℕ_discrete}
use lib.ListN.{length, get_or, take, drop, set, length-set, drop_of_length-le}
use lib.Seq.{get_or-take, get_or-set_same, get_or-set_other, drop-cons, get_or-drop, drop-drop, length-take-le}
use lib.IntN.{ℤ, pos}
use Rattle.model.specs.Model.{select}
use Rattle.model.specs.Verdict.{next_of}
use Rattle.model.proofs.MoreChanges.{select_step}
use Rattle.clock.specs.Placed.{Position}
use Rattle.clock.specs.declared.positions.Positions.{Positions}
use Rattle.latest_changes.specs.Stops.{Ranged, stop_from, NextStops}

module _ (n : ℕ) (p : Positions) (stops : List Bool) where
  -- what an entry is
  pub record Entry (k : ℕ) (next : ℤ) : Type 0 where
    -- the entry is the position of the first stop from opening k on, or the end
    pub is : next ≡ stop_from n p stops k
    -- the entry lies where a position of an accepted job can lie
    pub range : Position next

  -- the entries from i on are there, and the first stop from i on is at hand
  pub record Found (i : ℕ) (nexts : List ℤ) (next : ℤ) : Type 0 where
    -- the array has a place for each of 64 openings
    pub size : length nexts ≡ 64
    -- the first stop from opening i on is at hand
    pub here : Entry i next
    -- the entries from i on hold the stop after their opening
    pub later : (k : ℕ) → i ≤ k → k < n → Entry (suc k) (get_or nexts k (pos 0))

  -- behind the last opening there is none
  pub found_none : Ranged n p → (nexts : List ℤ) → length nexts ≡ 64 → Found n nexts p.end
  unfolding select
  found_none r nexts h = record {
    size = h;
    here = record {
      is = sym (ap (λ (l : List ℤ). next_of p.end (select l (drop n (take n stops)))) (drop_of_length-le (take n p.at) {i = n} (omega (arith, length-take-le n p.at r.long))));
      range = r.end;
    };
    later = λ k l m. absurd (omega arith);
  }

  -- opening i, and then those behind it
  stop_step : n ≤ length p.at → (i : ℕ) → i < n → stop_from n p stops i ≡ cond (get_or stops i false) (get_or p.at i (pos 0)) (stop_from n p stops (suc i))
  stop_step long i h =
      ap (λ (l : List ℤ). next_of p.end (select l (drop i (take n stops)))) (drop-cons (take n p.at) i (pos 0) (omega (arith, length-take-le n p.at long)))
      ∙ ap (next_of p.end) (select_step (get_or (take n p.at) i (pos 0)) (drop (suc i) (take n p.at)) (drop i (take n stops)))
      ∙ rw (get_or-drop i (take n stops) 0 false, add-zero i, drop-drop 1 i (take n stops), add-one i, get_or-take n stops i false h, get_or-take n p.at i (pos 0) h) (go (get_or stops i false))
    where
      rest : List ℤ
      rest = select (drop (suc i) (take n p.at)) (drop (suc i) (take n stops))

      go : (b : Bool) → next_of p.end (cond b (get_or p.at i (pos 0) ∷ rest) rest) ≡ cond b (get_or p.at i (pos 0)) (next_of p.end rest)
      go true = refl
      go false = refl

  -- storing the stop at hand fills the entry of opening i - 1, which is then looked at itself
  pub found_more : Ranged n p → (i : ℕ) (nexts : List ℤ) (next new : ℤ) → 0 < i → i ≤ n → new ≡ cond (get_or stops (i - 1) false) (get_or p.at (i - 1) (pos 0)) next → Found i nexts next
      → Found (i - 1) (set nexts (i - 1) next) new
  found_more r i nexts next new l h e f = record {
    size = length-set nexts (i - 1) next ∙ f.size;
    here = record {
      is = e ∙ ap (cond (get_or stops (i - 1) false) (get_or p.at (i - 1) (pos 0))) stored.is ∙ sym (stop_step r.long (i - 1) (omega arith));
      range = subst Position (sym e) (go (get_or stops (i - 1) false));
    };
    later = λ k a b. at_k k a b (ℕ_discrete k (i - 1));
  }
    where
      back : i ≡ suc (i - 1)
      back = omega arith

      -- the entry that is stored at i − 1
      stored : Entry (suc (i - 1)) next
      stored = subst (λ (k : ℕ). Entry k next) back f.here

      go : (b : Bool) → Position (cond b (get_or p.at (i - 1) (pos 0)) next)
      go true = r.openings (i - 1) (omega arith)
      go false = stored.range

      at_k : (k : ℕ) → i - 1 ≤ k → k < n → Dec (k ≡ i - 1) → Entry (suc k) (get_or (set nexts (i - 1) next) k (pos 0))
      at_k k a b (yes z) =
          let same = get_or-set_same nexts (i - 1) next (pos 0) (omega (arith, f.size, r.few)) in
          subst (λ (x : ℕ). Entry (suc x) (get_or (set nexts (i - 1) next) x (pos 0))) (sym z) (subst (Entry (suc (i - 1))) (sym same) stored)
      at_k k a b (no z) = subst (Entry (suc k)) (sym (get_or-set_other nexts (i - 1) k next (pos 0) z)) (f.later k (above (ℕ_discrete i k)) b)
        where
          above : Dec (i ≡ k) → i ≤ k
          above (yes x) = omega arith
          above (no x) = omega (arith, z, x)

  -- once the first opening is reached, the array holds the stop after each opening
  pub found_all : (i : ℕ) (nexts : List ℤ) (next : ℤ) → i ≤ 0 → Found i nexts next → NextStops n p stops nexts
  found_all i nexts next z f = record { is = λ k h. (f.later k (omega arith) h).is; ranges = λ k h. (f.later k (omega arith) h).range }
