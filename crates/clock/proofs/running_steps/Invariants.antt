use Prim.Native.Nat.{◌<◌}
use Rattle.model.specs.Model.{Job}
use Rattle.clock.specs.Placed.{Flags}
use Rattle.clock.proofs.Steps.{Timed}
use Rattle.clock.proofs.running_steps.Given as goal

abbrev pub invariant-loop-s : goal.invariant-loop-s
invariant-loop-s l = (l.run < l.s) × ((job : Job) → Flags job.idles l.idle → Timed job l.clock l.run l.s)
