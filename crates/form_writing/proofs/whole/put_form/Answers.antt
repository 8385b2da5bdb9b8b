-- `put_form`: the horizon, the idle steps and the rest.
use Rattle.lines.specs.Text.{bytes}
use Rattle.line_writing.proofs.Putting.{then, room_front, room_behind}
use Rattle.form_writing.specs.Cut.{form_cut}
use Rattle.form_writing.proofs.whole.put_form.Goals as goal

pub put_line-requires-clause-n_in_bounds : goal.put_line-requires-clause-n_in_bounds
unfolding bytes form_cut
put_line-requires-clause-n_in_bounds c = rw c.from.ensures (room_front _ (room_front _ c.requires))

pub put_idles-requires : goal.put_idles-requires
unfolding bytes form_cut
put_idles-requires c = room_behind (room_front _ c.requires) (rw c.from.ensures at c.put_line.ensures)

pub put_rest-requires : goal.put_rest-requires
unfolding bytes form_cut
put_rest-requires c = room_behind c.requires (then (rw c.from.ensures at c.put_line.ensures) c.put_idles.ensures)

pub returns : goal.returns
unfolding bytes form_cut
returns c = then (then (rw c.from.ensures at c.put_line.ensures) c.put_idles.ensures) c.put_rest.ensures
