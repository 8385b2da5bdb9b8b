-- `put_cover`: the lines of removal, where they stand.
use mathlib.Core.Path.{sym}
use Rattle.lines.specs.Text.{bytes}
use Rattle.line_writing.proofs.Putting.{none, then, same, room_same, room_front, room_behind}
use Rattle.part_writing.proofs.Pieces.{cover_there, cover_gone}
use Rattle.part_writing.proofs.put_cover.Goals as goal

pub put_line-requires-clause-n_in_bounds : goal.put_line-requires-clause-n_in_bounds
unfolding bytes
put_line-requires-clause-n_in_bounds c = rw c.from.ensures (room_front _ (room_same c.requires (cover_there _ _ c.in-Some.is)))

pub put_inside-requires : goal.put_inside-requires
unfolding bytes
put_inside-requires c = (c.in-Some.cover.few, room_behind (room_same c.requires (cover_there _ _ c.in-Some.is)) (rw c.from.ensures at c.put_line.ensures))

pub returns-in-Some : goal.returns-in-Some
unfolding bytes
returns-in-Some c = same (then (rw c.from.ensures at c.put_line.ensures) c.put_inside.ensures) (sym (cover_there _ _ c.in-Some.is))

pub returns-in_default : goal.returns-in_default
returns-in_default c = same none (sym (cover_gone _ c.in_default.is))
