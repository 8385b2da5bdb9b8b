-- `answer_text`: a fault of the text is refused; else the text, which is that of what it says, is the answer.
use Prim.Native.Nat.{ℕ}
use mathlib.Core.Path.{◌≡◌, sym, ap, subst, ◌∙◌}
use mathlib.Core.List.{List}
use native.Mathlib.Omega.{arith}
use lib.ListN.{length}
use Rattle.lines.specs.Text.{bytes}
use Rattle.lines.specs.Fault.{number_of_lem}
use Rattle.lines.specs.Reads.{outcome, seen}
use Rattle.lines.specs.Parser.{accepted, refused, finish, whole}
use Rattle.job_grammar.specs.Grammar.{job_lines}
use Rattle.job_grammar.proofs.Lengths.{text_fits}
use Rattle.job_text.specs.Views.{text_of}
use Rattle.answers.specs.Said.{plainly, Replied}
use Rattle.form.specs.Write.{write_room}
use Rattle.form.proofs.Lines.{lines_known, lines_fault}
use Rattle.form.proofs.answer_text.Goals as goal
use Rattle.form.proofs.answer_text.Goals.{In-Err, In-Ok}

-- what the lines are read as
refused-text : (c : In-Err) → finish (whole job_lines c.args.text.now 1) ≡ refused (number_of_lem c.in-Err.fault.kind) c.in-Err.fault.line
refused-text c = sym c.read_all.ensures ∙ ap (λ r. outcome (seen text_of r)) c.in-Err.is

accepted-text : (c : In-Ok) → finish (whole job_lines c.args.text.now 1) ≡ accepted (text_of c.in-Ok.field-0)
accepted-text c = sym c.read_all.ensures ∙ ap (λ r. outcome (seen text_of r)) c.in-Ok.is

pub refuse-requires : goal.refuse-requires
refuse-requires c = (omega (arith, (lines_fault _ 45257 _ _ c.requires (refused-text (goal.at.refuse-requires c).In-Err)).1), omega arith)

pub returns-in-Err : goal.returns-in-Err
unfolding bytes
returns-in-Err c = rw (refused-text (goal.at.returns-in-Err c).In-Err) c.refuse.ensures

pub answer-requires : goal.answer-requires
answer-requires c = let k = lines_known _ _ (accepted-text (goal.at.answer-requires c).In-Ok) in omega (arith, text_fits (text_of c.in-Ok.field-0) k.0, ap length k.1)

pub returns-in-Ok : goal.returns-in-Ok
returns-in-Ok c = let e = accepted-text (goal.at.returns-in-Ok c).In-Ok in
    let a = c.answer in
    rw e (subst (λ (xs : List ℕ). Replied write_room (plainly 0 xs) c.args.out.now a.new.out a.result) (lines_known _ _ e).1 a.ensures)
