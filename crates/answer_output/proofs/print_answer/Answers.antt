-- `print_answer`: the answer's length is within the output and within a printout, so its bytes are copied whole, and what is handed out is the copy.
use Rattle.std.proofs.Common.{sym, ap, ◌∙◌}
use Rattle.answer_output.specs.declared.Printout.{Printout}
use Rattle.answer_output.specs.Prints.{printed}
use Rattle.answer_output.proofs.Printing.{copied}
use Rattle.answer_output.proofs.print_answer.Goals as goal

pub hand_out-requires : goal.hand_out-requires
hand_out-requires g c = copied c.args.a.length c.args.out.now _ _ c.requires.0 c.copy_from_slice.ensures.after

pub returns : goal.returns
returns g c =
    let e = c.hand_out.ensures in
    (ap (λ (p : Printout). p.answer) e, ap printed e ∙ sym (copied c.args.a.length c.args.out.now _ _ c.requires.0 c.copy_from_slice.ensures.after))
