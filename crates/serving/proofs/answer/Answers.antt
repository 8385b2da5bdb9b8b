-- `answer`: the number of what is found is handed over, and its lines are put.
use Prim.Native.Nat.{ℕ}
use mathlib.Core.Path.{subst}
use native.Mathlib.Omega.{arith}
use borrow.Author.Rules.{rules}
use Rattle.line_writing.specs.Puts.{Room}
use Rattle.jobs.specs.Views.{plan_for}
use Rattle.job_text.specs.Views.{given_in}
use Rattle.answers.specs.Said.{plainly, Replied}
use Rattle.serving.specs.Serve.{latest_lines, latest_room}
use Rattle.serving.specs.Serving.{served_answer}
use Rattle.serving.proofs.Lengths.{lines_short}
use Rattle.serving.proofs.answer.Goals as goal

pub reply-requires : goal.reply-requires
reply-requires c o start long = let a = c.args in
    let fits = c.requires in
    let room : Room o.now (latest_lines (given_in a.text.now) (served_answer (plan_for a.text.now.job.job a.plan.now) a.s)) = record { fits = omega (arith, start, long, lines_short a.s a.text.now a.plan.now c.requires) } in
    search (rules, room, fits)

pub returns : goal.returns
returns c = let a = c.args in
    let plan = plan_for a.text.now.job.job a.plan.now in
    let lines = latest_lines (given_in a.text.now) (served_answer plan a.s) in
    subst (λ (n : ℕ). Replied latest_room (plainly n lines) c.args.out.now c.reply.new.out c.reply.result) (c.number_of.ensures plan)
    (c.reply.ensures lines (lines_short a.s a.text.now a.plan.now c.requires) (λ o p start put. search rules))
