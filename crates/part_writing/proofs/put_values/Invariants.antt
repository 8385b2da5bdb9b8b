use lib.ListN.{take}
use Rattle.lines.specs.Text.{line, texts}
use Rattle.line_writing.specs.Puts.{Puts}
use Rattle.part_writing.proofs.put_values.Given as goal

abbrev pub invariant-loop-value : goal.invariant-loop-value
invariant-loop-value l = Puts l.initial.out (texts (line l.key) (take l.value-index l.values)) l.out
