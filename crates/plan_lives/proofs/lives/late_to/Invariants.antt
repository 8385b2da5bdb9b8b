use lib.ListN.{length, take}
use lib.IntN.{pos}
use Rattle.jobs.specs.Views.{job_of}
use Rattle.clock.specs.Placed.{Begins}
use Rattle.plan_lives.specs.Views.{model_gaps}
use Rattle.plan_lives.proofs.Follow.{Follows}
use Rattle.plan_lives.proofs.lives.late_to.Given as goal

abbrev pub invariant-loop-change : goal.invariant-loop-change
invariant-loop-change l = Begins l.life l.prev × Follows (job_of l.fn.job.job) l.to (pos l.life) (take l.fn.job.job.opening_count l.changes) l.initial.prev (length l.yielded) l.prev (model_gaps l.late)
