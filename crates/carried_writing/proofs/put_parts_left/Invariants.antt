use lib.ListN.{length, take}
use Rattle.lines.specs.Text.{texts}
use Rattle.line_writing.specs.Puts.{Puts}
use Rattle.part_lines.specs.Rendering.{part_text}
use Rattle.job_text.specs.Views.{text_in}
use Rattle.carried_writing.specs.Left.{parts_left}
use Rattle.carried_writing.proofs.put_parts_left.Given as goal

abbrev pub invariant-loop-k : goal.invariant-loop-k
invariant-loop-k l = Puts l.initial.out (texts part_text (take l.k (parts_left (length (text_in l.text).openings) l.past l.lefts (text_in l.text).parts))) l.out
