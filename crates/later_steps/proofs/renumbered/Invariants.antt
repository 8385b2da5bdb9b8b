use Prim.Native.Nat.{ℕ, ◌-◌}
use mathlib.Core.Path.{◌≡◌}
use mathlib.Core.List.{map}
use lib.ListN.{length, take}
use Rattle.later_steps.proofs.renumbered.Given as goal

abbrev pub invariant-loop-i : goal.invariant-loop-i
invariant-loop-i l = (length l.later ≡ 365) × (take l.i l.later ≡ map (λ (s : ℕ). s - l.step) (take l.i l.behind))
