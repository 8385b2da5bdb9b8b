-- `answer_hall`: the number of what is found is handed over, and its lines are put.
use Prim.Native.Nat.{ℕ}
use mathlib.Core.Path.{subst, ◌∙◌}
use native.Mathlib.Omega.{arith}
use borrow.Author.Rules.{rules}
use Rattle.line_writing.specs.Puts.{Room}
use Rattle.model.specs.Limits.{answer_room}
use Rattle.answers.specs.Said.{plainly, Replied}
use Rattle.findings.specs.Finding.{found_answer}
use Rattle.findings.proofs.Numbers.{number_same}
use Rattle.hall_jobs.specs.Views.{hall_of}
use Rattle.hall_printing.specs.Lines.{hall_lines}
use Rattle.hall_search.specs.Found.{plans_held}
use Rattle.hall_printing.proofs.Lengths.{hall_short}
use Rattle.hall_printing.proofs.answer_hall.Goals as goal

pub reply-requires : goal.reply-requires
reply-requires c o start long = let a = c.args in
    let fits = c.requires in
    let room : Room o.now (hall_lines (hall_of a.hall.now) (found_answer (plans_held a.hall.now a.plans.now) a.f)) = record { fits = omega (arith, start, long, hall_short a.f a.hall.now a.plans.now) } in
    search (rules, room, fits)

pub returns : goal.returns
returns c = let a = c.args in
    let plans = plans_held a.hall.now a.plans.now in
    let lines = hall_lines (hall_of a.hall.now) (found_answer plans a.f) in
    subst (λ (n : ℕ). Replied answer_room (plainly n lines) c.args.out.now c.reply.new.out c.reply.result) (c.number_of.ensures ∙ number_same plans a.f)
    (c.reply.ensures lines (hall_short a.f a.hall.now a.plans.now) (λ o p start put. search rules))
