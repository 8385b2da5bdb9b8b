-- `verdict_of`: up to the end of the lives, the verdict is the one on the plan.
use mathlib.Core.Path.{ap, ◌∙◌}
use lib.IntN.{ℤ}
use Rattle.jobs.specs.Views.{job_of, plan_for}
use Rattle.clock.proofs.Ranges.{position_bits}
use Rattle.plan_lives.specs.Steps.{verdict_to_lem}
use Rattle.plan_lives.proofs.Ruled.{verdict_whole}
use Rattle.plan_lives.proofs.lives.verdict_of.Goals as goal

pub returns : goal.returns
returns c = let a = c.args in
    let plan = plan_for a.job.now.job a.plan.now in
    let placed = c.positions_of-positions.ensures in
    c.verdict_to.ensures ∙ ap (λ (e : ℤ). verdict_to_lem (job_of a.job.now.job) e plan) (position_bits _ placed.end_range ∙ placed.end) ∙ verdict_whole (job_of a.job.now.job) plan
