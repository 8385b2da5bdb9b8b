-- `hall_input`: the answer is that of the call on what was read, whose output has the room asked; `same` leads to the whole input.
use Rattle.std.proofs.Common.{arith, ap, ◌∙◌, take}
use Rattle.model.specs.Limits.{most_walk}
use Rattle.answer_output.proofs.Printing.{prints}
use Rattle.hall_planning.specs.Hall.{hall_said}
use Rattle.whole_input.specs.declared.Text.TheVariants.{Hall}
use Rattle.text_program.proofs.Cut.{same}
use Rattle.text_program.proofs.Printing.{printed_whole}
use Rattle.hall_program.specs.Printed.{says}
use Rattle.hall_program.proofs.Cut.{over}
use Rattle.hall_program.proofs.hall_input.Goals as goal

pub returns : goal.returns
returns g c =
    let read = c.read_whole-read.ensures in
    let text = take c.read_whole-read.result.count c.read_whole-read.new.buf in
    printed_whole Hall says (λ t x e. e ∙ same Hall (λ s. hall_said s most_walk) (over most_walk) t) text (omega (arith, read.counts.0, read.counts.1)) read.front read.whole
    (hall_said text _) (ap (hall_said text) c.from.ensures) (prints (omega arith) c.hall-a.ensures.replied c.print_answer-printout.ensures)
