-- `judgement_to`: the verdict up to the step's position, then the cost.
use Prim.Native.Nat.{ℕ}
use mathlib.Core.Path.{ap₂, ap, ◌∙◌}
use lib.IntN.{ℤ}
use Rattle.model.specs.Verdict as model
use Rattle.jobs.specs.Views.{job_of, plan_for}
use Rattle.clock.proofs.Ranges.{position_bits}
use Rattle.plan_lives.specs.Steps.{verdict_to_lem}
use Rattle.plan_lives.specs.Views.{model_verdict}
use Rattle.log_lives.proofs.judgement_to.Goals as goal

pub returns : goal.returns
returns c = let a = c.args in
    let job = job_of a.past.now.job in
    let plan = plan_for a.past.now.job a.plan.now in
    let at = position_bits _ c.position_of-to.ensures.1 ∙ c.position_of-to.ensures.0 in
    c.judged.ensures ∙ ap (λ (stated : ℕ). model.judged stated c.cost_of-cost.result (model_verdict c.verdict_to-verdict.result)) c.from-stated.ensures ∙ ap₂ (model.judged a.stated) c.cost_of-cost.ensures (c.verdict_to-verdict.ensures ∙ ap (λ (e : ℤ). verdict_to_lem job e plan) at)
