-- The judgement in the model's terms.
use Rattle.model.specs.Verdict as model
use Rattle.verdict.specs.declared.Judgement.{Judgement}
use Rattle.verdict.specs.declared.Judgement.TheVariants.{Accepts, Unkept, WrongCost}

-- the judgement
abbrev pub model_judgement : Judgement → model.Judgement
model_judgement (Accepts cost) = model.accepts cost
model_judgement (Unkept part due) = model.unkept part due
model_judgement (WrongCost cost) = model.wrong_cost cost
