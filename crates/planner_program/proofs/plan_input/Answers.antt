-- `plan_input`: the answer is that of the call on what was read, whose output has the room asked; `same` leads to the whole input.
use Rattle.std.proofs.Common.{arith, ap, ◌∙◌, take}
use Rattle.model.specs.Limits.{most_walk}
use Rattle.answer_output.proofs.Printing.{prints}
use Rattle.planning.specs.Plan.{plan_said}
use Rattle.whole_input.specs.declared.Text.TheVariants.{Job}
use Rattle.text_program.proofs.Cut.{same}
use Rattle.text_program.proofs.Printing.{printed_whole}
use Rattle.planner_program.specs.Printed.{says}
use Rattle.planner_program.proofs.Cut.{over}
use Rattle.planner_program.proofs.plan_input.Goals as goal

pub returns : goal.returns
returns g c =
    let read = c.read_whole-read.ensures in
    let text = take c.read_whole-read.result.count c.read_whole-read.new.buf in
    printed_whole Job says (λ t x e. e ∙ same Job (λ s. plan_said s most_walk) (over most_walk) t) text (omega (arith, read.counts.0, read.counts.1)) read.front read.whole
    (plan_said text _) (ap (plan_said text) c.from.ensures) (prints (omega arith) c.plan-a.ensures.replied c.print_answer-printout.ensures)
