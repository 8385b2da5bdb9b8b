-- `put_values`: the lines of the values so far are put.
use mathlib.Core.Path.{ap}
use native.Mathlib.Omega.{arith}
use lib.Seq.{take_all}
use Rattle.lines.specs.Text.{line, texts}
use Rattle.line_writing.proofs.Putting.{same, room_next, next}
use Rattle.part_writing.proofs.put_values.Goals as goal

pub put_line-requires-clause-n_in_bounds : goal.put_line-requires-clause-n_in_bounds
put_line-requires-clause-n_in_bounds c = let l = c.loop-value in
    rw c.from.ensures (room_next (line c.args.key.now) c.args.values.now l.value-index 0 c.requires l.invariant (omega arith))

pub loop-value-preserved : goal.loop-value-preserved
loop-value-preserved c = let l = c.loop-value in
    next (line c.args.key.now) c.args.values.now l.value-index 0 (omega arith) l.invariant (rw c.from.ensures at c.put_line.ensures)

pub returns : goal.returns
returns c = same c.loop-value.invariant (ap (texts (line c.args.key.now)) (take_all c.loop-value.value-index c.args.values.now (omega arith)))
