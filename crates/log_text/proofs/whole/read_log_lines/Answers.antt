-- `whole::read_log_lines`: the line `step`, and then the plan lines against the job with the openings that are past.
use Rattle.std.proofs.Common.{rules, ℕ, Ok, Err, ◌≡◌, ap, ◌∙◌}
use mathlib.Core.Path.{ap₂, subst}
use Rattle.std.proofs.lemmas.Result.{err_from_is_err_and}
use Rattle.lines.specs.Text.{bytes}
use Rattle.lines.specs.Reads.{Reads}
use Rattle.lines.proofs.Parsing.{stopped, went_on}
use Rattle.lines.proofs.Steps.{put_value}
use Rattle.model.specs.Model as model
use Rattle.jobs.specs.Views.{job_of, model_plan}
use Rattle.plan_grammar.specs.Grammar.{Stated, plan_lines}
use Rattle.plan_text.specs.Views as text
use Rattle.log_grammar.specs.Grammar.{LogText, job_to, past_job_lem, log_lines}
use Rattle.log_text.proofs.whole.read_log_lines.Goals as goal
use Rattle.log_text.proofs.whole.read_log_lines.Goals.{After-past_job-past}

-- the job that the plan lines are read against
over : (c : After-past_job-past) → job_of c.past_job-past.result ≡ past_job_lem (job_of c.args.job.now) c.in_ok-step.step
over c = c.past_job-past.ensures.0 ∙ ap (λ (k : ℕ). job_to k (job_of c.args.job.now)) c.past_count.ensures.0

pub returns-in_err-step : goal.returns-in_err-step
unfolding log_lines bytes
returns-in_err-step c = search (rules, stopped)

pub returns-in_err-stated : goal.returns-in_err-stated
unfolding log_lines bytes
returns-in_err-stated c = let m = c.field.new.self in
    let a = c.read_plan_lines.new.lines in
    let p = err_from_is_err_and c.from_residual-in_err-stated.result c.from_residual-in_err-stated.ensures.1 in
    let k = subst (λ (j : model.Job). Reads (plan_lines j) m a (Err c.in_err-stated.field-0.0)) (over (goal.at.returns-in_err-stated c).After-past_job-past) c.in_err-stated.ensures in
    rw (p.1, p.2) (went_on _ _ c.args.lines.now m a _ (Err c.in_err-stated.field-0.0) c.in_ok-step.ensures.reads (stopped _ _ m a a c.in_err-stated.field-0.0 k))

pub returns : goal.returns
unfolding log_lines bytes
returns c = let job = job_of c.args.job.now in
    let step = c.in_ok-step.step in
    let b = c.args.lines.now in
    let m = c.field.new.self in
    let a = c.read_plan_lines.new.lines in
    let stated = c.in_ok-stated.stated in
    let past = c.past_job-past in
    let made : Stated → LogText = λ x. record { step = step; stated = x } in
    let x : Stated = text.said past.result stated in
    let k = subst (λ (j : model.Job). Reads (plan_lines j) m a (Ok x)) (over (goal.at.returns c).After-past_job-past) c.in_ok-stated.ensures in
    let same = ap₂ (λ (k m : ℕ). made (record { cost = stated.cost; plan = model_plan k m stated.plan })) (past.ensures.1 ∙ c.past_count.ensures.0) past.ensures.2 in
    subst (λ (g : LogText). Reads (log_lines job) b a (Ok g)) same (went_on _ _ b m a _ (Ok (made x)) c.in_ok-step.ensures.reads (put_value made _ m a _ k))
