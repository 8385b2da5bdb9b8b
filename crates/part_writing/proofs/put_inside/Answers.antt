-- `put_inside`: the number of holders, and the holders where they are not too many.
use mathlib.Core.Path.{sym}
use native.Mathlib.Omega.{arith}
use Rattle.lines.specs.Text.{bytes}
use Rattle.line_writing.proofs.Putting.{then, same, room_same, room_front, room_behind}
use Rattle.part_writing.specs.Cut.{inside_cut}
use Rattle.part_writing.proofs.Pieces.{inside_many, inside_few}
use Rattle.part_writing.proofs.put_inside.Goals as goal

pub put_line-requires : goal.put_line-requires
unfolding bytes inside_cut
put_line-requires c = record { n_bound = omega (arith, c.requires.0); n_in_bounds = room_front _ c.requires.1 }

pub put_values-requires : goal.put_values-requires
unfolding bytes
put_values-requires c = room_behind (room_same c.requires.1 (inside_few c.args.holders.now (omega arith))) c.put_line.ensures

pub returns-then-n-from : goal.returns-then-n-from
unfolding bytes
returns-then-n-from c = same (then c.put_line.ensures c.put_values.ensures) (sym (inside_few c.args.holders.now (omega arith)))

pub returns-else-n-from : goal.returns-else-n-from
unfolding bytes
returns-else-n-from c = same c.put_line.ensures (sym (inside_many c.args.holders.now (omega arith)))
