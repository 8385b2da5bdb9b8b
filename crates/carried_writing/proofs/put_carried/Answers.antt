-- `put_carried`: the horizon, and what is left of the idle steps, the openings and the parts, one behind the other.
use mathlib.Core.Path.{sym}
use Rattle.lines.specs.Text.{bytes}
use Rattle.line_writing.proofs.Putting.{then, same, room_same, room_front, room_behind}
use Rattle.carried_writing.proofs.Pieces.{text_is}
use Rattle.carried_writing.proofs.put_carried.Goals as goal
use Rattle.carried_writing.proofs.put_carried.Goals.{After-past_count-past}

pub put_line-requires-clause-n_in_bounds : goal.put_line-requires-clause-n_in_bounds
unfolding bytes
put_line-requires-clause-n_in_bounds c = let a = c.args in
    rw c.from.ensures (room_front _ (room_front _ (room_front _ (room_same c.requires.lefts_in_bounds (text_is a.text.now a.step c.past_count-past.result a.lefts.now c.past_count-past.ensures.0)))))

pub put_idles_left-requires : goal.put_idles_left-requires
unfolding bytes
put_idles_left-requires c = let a = c.args in
    room_behind (room_front _ (room_front _ (room_same c.requires.lefts_in_bounds (text_is a.text.now a.step c.past_count-past.result a.lefts.now c.past_count-past.ensures.0)))) (rw c.from.ensures at c.put_line.ensures)

pub put_openings_left-requires-clause-steps_in_bounds : goal.put_openings_left-requires-clause-steps_in_bounds
unfolding bytes
put_openings_left-requires-clause-steps_in_bounds c = let a = c.args in
    room_behind (room_front _ (room_same c.requires.lefts_in_bounds (text_is a.text.now a.step c.past_count-past.result a.lefts.now c.past_count-past.ensures.0)))
    (then (rw c.from.ensures at c.put_line.ensures) c.put_idles_left.ensures)

pub put_parts_left-requires-clause-lefts_in_bounds : goal.put_parts_left-requires-clause-lefts_in_bounds
unfolding bytes
put_parts_left-requires-clause-lefts_in_bounds c = let a = c.args in
    room_behind (room_same c.requires.lefts_in_bounds (text_is a.text.now a.step c.past_count-past.result a.lefts.now c.past_count-past.ensures.0))
    (then (then (rw c.from.ensures at c.put_line.ensures) c.put_idles_left.ensures) c.put_openings_left.ensures)

pub returns : goal.returns
unfolding bytes
returns c = let a = c.args in
    same (then (then (then (rw c.from.ensures at c.put_line.ensures) c.put_idles_left.ensures) c.put_openings_left.ensures) c.put_parts_left.ensures)
    (sym (text_is a.text.now a.step c.past_count-past.result a.lefts.now c.past_count-past.ensures.0))
