use Rattle.model.specs.Verdict.{keeps}
use Rattle.jobs.specs.Views.{job_of, changes_for}
use Rattle.plan_lives.specs.Steps.{late_to_lem}
use Rattle.plan_lives.proofs.Ruled.{Ruled}
use Rattle.plan_lives.proofs.lives.verdict_to.Given as goal

abbrev pub invariant-loop-k : goal.invariant-loop-k
invariant-loop-k l = Ruled (late_to_lem (job_of l.job.job) l.to) (job_of l.job.job).parts (changes_for l.job.job l.plan.changes) l.k keeps
