use mathlib.Core.Path.{◌≡◌}
use lib.ListN.{length, take}
use Rattle.model.specs.Model.{table}
use Rattle.jobs.specs.Views.{job_of, plan_for}
use Rattle.log_lives.specs.Done.{left_at}
use Rattle.log_lives.proofs.lefts_at.Given as goal

abbrev pub invariant-loop-k : goal.invariant-loop-k
invariant-loop-k l = (length l.lefts ≡ 16) × (take l.k l.lefts ≡ table (left_at (job_of l.past.job) l.step (plan_for l.past.job l.plan)) l.k)
