-- `serve`: the plan with the latest changes, and what it says of its stops.
use mathlib.Core.Path.{subst}
use Rattle.jobs.specs.Views.{job_of, plan_for}
use Rattle.job_text.specs.Views.{given_in}
use Rattle.answers.specs.Said.{Replied}
use Rattle.latest.specs.Latest.{LatestAnswer}
use Rattle.serving.specs.Serve.{latest_reply, latest_room}
use Rattle.serving.proofs.Fits.{fits}
use Rattle.serving.proofs.serve.Goals as goal

pub answer-requires : goal.answer-requires
answer-requires c = let a = c.args.text.now.job in
    fits (job_of a.job) a.valid (plan_for a.job c.args.stated.now).stops _ c.serving_of.result (c.serving_of.ensures _ c.latest_plan-plan.ensures)

pub returns : goal.returns
returns c = let j = c.args.text.now.job.job in
    let answer = c.answer in
    subst (λ (x : LatestAnswer). Replied latest_room (latest_reply (given_in c.args.text.now) x) c.args.out.now answer.new.out answer.result)
    (c.serving_of.ensures (plan_for j c.args.stated.now).stops c.latest_plan-plan.ensures) answer.ensures
