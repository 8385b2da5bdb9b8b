-- `put_part`: the lines of the life, the left and the removal, and those of the prices or of the rule.
use Rattle.lines.specs.Text.{bytes}
use Rattle.line_writing.proofs.Putting.{then, room_front, room_behind}
use Rattle.part_writing.specs.Cut.{part_cut_lem}
use Rattle.part_writing.proofs.put_part.Goals as goal

pub put_line-requires-clause-n_in_bounds : goal.put_line-requires-clause-n_in_bounds
unfolding part_cut_lem bytes
put_line-requires-clause-n_in_bounds c = rw c.from.ensures (room_front _ (room_front _ (room_front _ c.requires.room)))

pub put_line-requires-2-clause-n_in_bounds : goal.put_line-requires-2-clause-n_in_bounds
unfolding part_cut_lem bytes
put_line-requires-2-clause-n_in_bounds c = rw c.from-2.ensures (room_behind (room_front _ (room_front _ c.requires.room)) (rw c.from.ensures at c.put_line.ensures))

pub put_cover-requires : goal.put_cover-requires
unfolding part_cut_lem bytes
put_cover-requires c = room_behind (room_front _ c.requires.room) (then (rw c.from.ensures at c.put_line.ensures) (rw c.from-2.ensures at c.put_line-2.ensures))

pub put_prices-requires : goal.put_prices-requires
unfolding part_cut_lem bytes
put_prices-requires c = record { marked = c.requires.marked; room = room_behind c.requires.room (then (then (rw c.from.ensures at c.put_line.ensures) (rw c.from-2.ensures at c.put_line-2.ensures)) c.put_cover.ensures) }

pub returns : goal.returns
unfolding part_cut_lem bytes
returns c = then (then (then (rw c.from.ensures at c.put_line.ensures) (rw c.from-2.ensures at c.put_line-2.ensures)) c.put_cover.ensures) c.put_prices.ensures
