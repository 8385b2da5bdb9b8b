use Prim.Native.Nat.{◌+◌}
use mathlib.Core.Path.{◌≡◌}
use lib.ListN.{length, take}
use Rattle.clock.specs.Placed.{Flags}
use Rattle.model.specs.Limits.{last_position}
use Rattle.clock.proofs.idle_steps.Given as goal

abbrev pub invariant-loop-step : goal.invariant-loop-step
invariant-loop-step l = (length l.flags ≡ last_position + 1) × Flags (take l.step-index l.step-items) l.flags
