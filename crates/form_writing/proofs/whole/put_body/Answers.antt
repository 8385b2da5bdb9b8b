-- `put_body`: the openings, and the parts behind their number.
use Rattle.line_writing.proofs.Putting.{then, room_front, room_behind}
use Rattle.form_writing.specs.Cut.{body_cut}
use Rattle.form_writing.proofs.whole.put_body.Goals as goal

pub put_openings-requires : goal.put_openings-requires
unfolding body_cut
put_openings-requires c = record { fees_len = c.requires.openings_len_bound.1; fees_in_bounds = room_front _ c.requires.prices_in_bounds }

pub put_counted-requires : goal.put_counted-requires
unfolding body_cut
put_counted-requires c = record { n_le_most_openings = c.requires.openings_len_bound.0; prices_in_bounds = room_behind c.requires.prices_in_bounds c.put_openings.ensures }

pub returns : goal.returns
unfolding body_cut
returns c = then c.put_openings.ensures c.put_counted.ensures
