-- `judge_plan`: a fault of the plan text is refused; else the judgement is the model's, and it is answered.
use mathlib.Core.Path.{◌≡◌, sym, ap, ◌∙◌}
use native.Mathlib.Omega.{arith}
use Rattle.lines.specs.Parser.{accepted, refused}
use Rattle.lines.specs.Fault.{number_of_lem}
use Rattle.plan_text.specs.Views.{outcome, said}
use Rattle.jobs.specs.Views.{job_of, plan_for}
use Rattle.plan_grammar.specs.Grammar.{read_plan_lem}
use Rattle.plan_grammar.proofs.Numbered.{fault}
use Rattle.verdict.proofs.Limits.{judged_limited}
use Rattle.judging.proofs.judge_plan.Goals as goal
use Rattle.judging.proofs.judge_plan.Goals.{In-Err, In-Ok}

-- what the plan text reads as, by what was read
refused_plan : (c : In-Err) → let a = c.args in read_plan_lem (job_of a.job.now.job) a.plan.now ≡ refused (number_of_lem c.in-Err.fault.kind) c.in-Err.fault.line
refused_plan c = sym c.read_plan.ensures ∙ ap (outcome c.args.job.now.job) c.in-Err.is

accepted-plan : (c : In-Ok) → let a = c.args in
    read_plan_lem (job_of a.job.now.job) a.plan.now ≡ accepted (said a.job.now.job c.in-Ok.stated)
accepted-plan c = sym c.read_plan.ensures ∙ ap (outcome c.args.job.now.job) c.in-Ok.is

pub refuse-requires : goal.refuse-requires
refuse-requires c = (omega (arith, (fault _ _ _ _ (refused_plan (goal.at.refuse-requires c).In-Err)).1), omega arith)

pub answer_judgement-requires : goal.answer_judgement-requires
answer_judgement-requires c = let r = c.in-Ok.stated in
    (judged_limited (job_of c.args.job.now.job) c.args.job.now.valid (plan_for c.args.job.now.job r.plan) r.cost _ c.judgement_of.ensures, omega arith)

pub returns-in-Err : goal.returns-in-Err
returns-in-Err c = rw (refused_plan (goal.at.returns-in-Err c).In-Err) c.refuse.ensures

pub returns-in-Ok : goal.returns-in-Ok
returns-in-Ok c = rw (accepted-plan (goal.at.returns-in-Ok c).In-Ok, ← c.judgement_of.ensures) c.answer_judgement.ensures
