use mathlib.Core.Path.{◌≡◌}
use lib.ListN.{length, take}
use Rattle.model.specs.Model.{positions}
use Rattle.jobs.specs.Views.{job_of}
use Rattle.clock.proofs.positions_of.Given as goal

abbrev pub invariant-loop-i : goal.invariant-loop-i
invariant-loop-i l = (length l.at ≡ 64) × (take l.i l.at ≡ take l.i (positions (job_of l.fn.job.job)))
