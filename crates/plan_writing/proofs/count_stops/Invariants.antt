use mathlib.Core.Path.{◌≡◌}
use mathlib.Core.Bool.{Bool, false}
use Prim.Native.Nat.{ℕ}
use lib.ListN.{length, get_or}
use Rattle.base.specs.Chosen.{chosen}
use Rattle.jobs.specs.declared.Plan.{Plan}
use Rattle.plan_writing.proofs.count_stops.Given as goal

-- a stop is made at opening i
abbrev pub stop : Plan → ℕ → Bool
stop plan i = get_or plan.stops i false

abbrev pub invariant-loop-stop : goal.invariant-loop-stop
invariant-loop-stop l = l.count ≡ length (chosen (stop l.plan) (λ (j : ℕ). j) l.stop-index)
