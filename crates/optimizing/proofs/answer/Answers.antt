-- `answer`: the number of what is found is handed over, and its lines are put.
use Prim.Native.Nat.{ℕ}
use mathlib.Core.Path.{subst, ◌∙◌}
use native.Mathlib.Omega.{arith}
use borrow.Author.Rules.{rules}
use Rattle.line_writing.specs.Puts.{Room}
use Rattle.jobs.specs.Views.{plan_for}
use Rattle.job_text.specs.Views.{given_in}
use Rattle.answers.specs.Said.{plainly, Replied}
use Rattle.findings.specs.Finding.{found_answer}
use Rattle.findings.proofs.Numbers.{number_same}
use Rattle.optimizing.specs.Optimum.{optimum_lines, optimum_room}
use Rattle.optimizing.proofs.Lengths.{lines_short}
use Rattle.optimizing.proofs.answer.Goals as goal

pub reply-requires : goal.reply-requires
reply-requires c o start long = let a = c.args in
    let fits = c.requires in
    let room : Room o.now (optimum_lines (given_in a.text.now) (found_answer (plan_for a.text.now.job.job a.plan.now) a.f)) = record { fits = omega (arith, start, long, lines_short a.f a.text.now a.plan.now c.requires) } in
    search (rules, room, fits)

pub returns : goal.returns
returns c = let a = c.args in
    let plan = plan_for a.text.now.job.job a.plan.now in
    let lines = optimum_lines (given_in a.text.now) (found_answer plan a.f) in
    subst (λ (n : ℕ). Replied optimum_room (plainly n lines) c.args.out.now c.reply.new.out c.reply.result) (c.number_of.ensures ∙ number_same plan a.f)
    (c.reply.ensures lines (lines_short a.f a.text.now a.plan.now c.requires) (λ o p start put. search rules))
