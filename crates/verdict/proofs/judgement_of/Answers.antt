-- `judgement_of`: the model's judgement, from the true cost and the verdict.
use Prim.Native.Nat.{ℕ}
use mathlib.Core.Path.{ap, ap₂, ◌∙◌}
use Rattle.model.specs.Verdict.{judged_of, judged}
use Rattle.plan_lives.specs.Views.{model_verdict}
use Rattle.verdict.proofs.judgement_of.Goals as goal

pub returns : goal.returns
unfolding judged_of
returns c = c.judged.ensures ∙ ap (λ (stated : ℕ). judged stated c.cost_of-cost.result (model_verdict c.verdict_of-verdict.result)) c.from-stated.ensures ∙ ap₂ (judged c.args.stated) c.cost_of-cost.ensures c.verdict_of-verdict.ensures
