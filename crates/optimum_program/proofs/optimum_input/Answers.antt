-- `optimum_input`: the answer is that of the call on what was read, whose output has the room asked; `kept` leads to the whole input.
use Rattle.std.proofs.Common.{arith, ◌≡◌, subst, take, List, ℕ}
use Rattle.model.specs.Limits.{most_walk}
use Rattle.answers.specs.Said.{Said, lent}
use Rattle.answer_output.proofs.Printing.{prints}
use Rattle.optimizing.specs.Optimum.{optimum_room}
use Rattle.optimizing.specs.Promise.{OptimumPromise}
use Rattle.whole_input.specs.declared.Text.TheVariants.{Job}
use Rattle.text_program.proofs.Cut.{kept}
use Rattle.text_program.proofs.Printing.{printed_whole}
use Rattle.optimum_program.specs.Printed.{says}
use Rattle.optimum_program.proofs.Cut.{over}
use Rattle.optimum_program.proofs.optimum_input.Goals as goal

-- with the room that is asked, the answer itself keeps the promise
whole : (text : List ℕ) (walk n : ℕ) (s : Said) → n ≡ optimum_room → walk ≡ most_walk → OptimumPromise text walk n (lent optimum_room n s) → says text s
whole text walk n s e w p =
    subst (λ (k : ℕ). OptimumPromise text k optimum_room s) w (subst (λ (k : ℕ). OptimumPromise text walk k (lent optimum_room k s)) e p)

pub returns : goal.returns
returns g c =
    let read = c.read_whole-read.ensures in
    let text = take c.read_whole-read.result.count c.read_whole-read.new.buf in
    let answered = c.optimum-a.ensures in
    printed_whole Job says (kept Job says (over most_walk optimum_room)) text (omega (arith, read.counts.0, read.counts.1)) read.front read.whole
    answered.said (whole text _ _ answered.said (omega arith) c.from.ensures answered.promise) (prints (omega arith) answered.replied c.print_answer-printout.ensures)
