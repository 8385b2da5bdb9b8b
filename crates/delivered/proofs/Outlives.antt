-- A part whose first life outlasts the horizon is kept without a change. The end is no further than the first life; no change is selected.
use Prim.Native.Nat.{ℕ, zero, suc, ◌+◌, ◌≤◌}
use mathlib.Core.Path.{◌≡◌, refl, ap, ◌∙◌}
use mathlib.Core.Bool.{Bool, true, false}
use mathlib.Core.List.{List, [], ◌∷◌}
use native.Mathlib.Omega.{arith}
use lib.ListN.{length, replicate, length-replicate}
use lib.IntN.{pos, ◌-ℤ◌}
use Rattle.model.specs.Model.{Part, Job, positions, end, last_change_lem, within, kept, kept_by, select, KeepsPart}
use Rattle.base.proofs.Integers.{at_most_test, difference}
use Rattle.model.proofs.Positions.{in_range_lem}
use Rattle.base.proofs.Bools.{none_set}

-- nothing is selected by a set without a member
none_selected : {A : Type 0} (l : List A) (n : ℕ) → select l (replicate n false) ≡ []
unfolding select
none_selected [] zero = refl
none_selected [] (suc n) = refl
none_selected (x ∷ l) zero = refl
none_selected (x ∷ l) (suc n) = none_selected l n

module _ (job : Job) (part : Part) (outlives : job.horizon + 1 ≤ part.left) where
  in_life : within (pos part.life) (last_change_lem part) (end job) ≡ true
  unfolding within
  in_life =
      at_most_test (end job -ℤ last_change_lem part) (pos part.life)
      (omega (arith, outlives, (in_range_lem job (job.horizon + 1)).1, difference (end job) (last_change_lem part), difference (pos part.left) (pos part.life)))

  unchanged : kept_by job part (replicate (length job.openings) false) ≡ true
  unfolding kept
  unchanged = ap (kept (pos part.life) (end job) (last_change_lem part)) (none_selected (positions job) (length job.openings)) ∙ in_life

  -- M8. "So a part with R of T + 1 or more needs no change."
  pub no_change : (stops : List Bool) → KeepsPart job stops part (replicate (length job.openings) false)
  no_change stops = record { size = length-replicate (length job.openings) false; at_stops = λ i e. absurd (none_set (length job.openings) i e); lives = unchanged }
