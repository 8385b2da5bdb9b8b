-- A part's changes, opening by opening: those made so far, and what the rest gives from the last of them on, are the latest. By one unfolding of `latest_from`.
use Prim.Native.Nat.{ℕ, suc, ◌+◌, ◌≤◌, ◌<◌}
use mathlib.Core.Path.{◌≡◌, refl, sym, ap, ◌∙◌}
use mathlib.Core.Bool.{Bool, true, false, cond, not, ◌&&◌}
use mathlib.Core.List.{List, [], ◌∷◌, ◌++◌, append_assoc, append-nil}
use native.Mathlib.Omega.{arith}
use native.Mathlib.Nat.{add-zero}
use native.Mathlib.Numerals.{add-one}
use lib.ListN.{length, get_or, take, drop, set, drop_of_length-le}
use lib.Seq.{get_or-take, drop-cons, get_or-drop, drop-drop, length-take-le}
use lib.IntN.{ℤ, pos}
use Rattle.base.proofs.Arrays.{take_more}
use Rattle.model.specs.Model.{within, select}
use Rattle.model.specs.Verdict.{next_of}
use Rattle.latest.specs.Latest.{latest_from}
use Rattle.clock.specs.declared.positions.Positions.{Positions}
use Rattle.latest_changes.specs.Stops.{Ranged, NextStops}

module _ (life end first : ℤ) (ps : List ℤ) (stops : List Bool) where
  -- the first i changes are made, the last of them, or the change before, at `prev`
  abbrev pub Made : ℕ → List Bool → ℤ → Type 0
  Made i at prev = take i at ++ latest_from life end prev (drop i ps) (drop i stops) ≡ latest_from life end first ps stops

  -- a change is forced at opening i
  abbrev pub forced_at : ℕ → ℤ → Bool
  forced_at i prev = get_or stops i false && not (within life prev (next_of end (select (drop (suc i) ps) (drop (suc i) stops))))

  latest_step : (i : ℕ) (prev : ℤ) → i < length ps
      → latest_from life end prev (drop i ps) (drop i stops) ≡ forced_at i prev ∷ latest_from life end (cond (forced_at i prev) (get_or ps i (pos 0)) prev) (drop (suc i) ps) (drop (suc i) stops)
  unfolding latest_from
  latest_step i prev h = rw (drop-cons ps i (pos 0) h, get_or-drop i stops 0 false, add-zero i, drop-drop 1 i stops, add-one i) (go (forced_at i prev))
    where
      go : (b : Bool) → cond b (true ∷ latest_from life end (get_or ps i (pos 0)) (drop (suc i) ps) (drop (suc i) stops)) (false ∷ latest_from life end prev (drop (suc i) ps) (drop (suc i) stops))
          ≡ b ∷ latest_from life end (cond b (get_or ps i (pos 0)) prev) (drop (suc i) ps) (drop (suc i) stops)
      go true = refl
      go false = refl

  made_more : (i : ℕ) (at : List Bool) (prev : ℤ) (change : Bool) (new : ℤ) → i < length ps → i < length at → change ≡ forced_at i prev → new ≡ cond change (get_or ps i (pos 0)) prev
      → Made i at prev → Made (i + 1) (set at i change) new
  made_more i at prev change new h g e n m =
      rw (take_more i at change g, add-one i)
      (append_assoc (take i at) (change ∷ []) _
      ∙ ap (λ (l : List Bool). take i at ++ l) (λ k. e k ∷ latest_from life end ((n ∙ ap (λ (b : Bool). cond b (get_or ps i (pos 0)) prev) e) k) (drop (suc i) ps) (drop (suc i) stops))
      ∙ ap (λ (l : List Bool). take i at ++ l) (sym (latest_step i prev h)) ∙ m)

  made_all : (i : ℕ) (at : List Bool) (prev : ℤ) → length ps ≤ i → Made i at prev → take i at ≡ latest_from life end first ps stops
  unfolding latest_from
  made_all i at prev h m = sym (append-nil (take i at)) ∙ (rw (drop_of_length-le ps {i = i} h) at m)

-- one opening more, by the arrays that the code reads
module _ (life first : ℤ) (n : ℕ) (p : Positions) (stops : List Bool) where
  -- the first i changes of n openings are made
  abbrev pub MadeTo : ℕ → List Bool → ℤ → Type 0
  MadeTo = Made life p.end first (take n p.at) (take n stops)

  -- with the change at opening i stored if it is forced, one opening more is made
  pub made_next : Ranged n p → (nexts : List ℤ) → NextStops n p stops nexts → (i : ℕ) (at : List Bool) (prev : ℤ) (change : Bool) (new : ℤ) → i < n → length at ≡ 64
      → change ≡ (get_or stops i false && not (within life prev (get_or nexts i (pos 0)))) → new ≡ cond change (get_or p.at i (pos 0)) prev → MadeTo i at prev → MadeTo (i + 1) (set at i change) new
  made_next r nexts x i at prev change new h l c e m =
      made_more life p.end first (take n p.at) (take n stops) i at prev change new (omega (arith, length-take-le n p.at r.long)) (omega (arith, r.few))
      (c ∙ (λ k. sym (get_or-take n stops i false h) k && not (within life prev (x.is i h k)))) (e ∙ ap (λ (z : ℤ). cond change z prev) (sym (get_or-take n p.at i (pos 0) h))) m

  -- once all n openings are made, the array's first n entries are the latest changes
  pub made_end : Ranged n p → (at : List Bool) (prev : ℤ) → MadeTo n at prev → take n at ≡ latest_from life p.end first (take n p.at) (take n stops)
  made_end r at prev m = made_all life p.end first (take n p.at) (take n stops) n at prev (omega (arith, length-take-le n p.at r.long)) m
