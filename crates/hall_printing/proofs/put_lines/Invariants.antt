use lib.ListN.{length, take}
use Rattle.lines.specs.Text.{texts}
use Rattle.line_writing.specs.Puts.{Puts}
use Rattle.hall_printing.specs.Lines.{own_lines}
use Rattle.hall_printing.proofs.Held.{held}
use Rattle.hall_printing.proofs.put_lines.Given as goal

abbrev pub invariant-loop-job : goal.invariant-loop-job
invariant-loop-job l = Puts l.initial.out (texts own_lines (take (length l.yielded) (held (take l.hall.count l.hall.jobs) l.plans))) l.out
