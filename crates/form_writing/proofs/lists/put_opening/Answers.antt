-- `put_opening`: two lines.
use Rattle.lines.specs.Text.{bytes}
use Rattle.line_writing.proofs.Putting.{then, room_front, room_behind}
use Rattle.job_grammar.specs.Rendering.{opening_text}
use Rattle.form_writing.proofs.lists.put_opening.Goals as goal

pub put_line-requires-clause-n_in_bounds : goal.put_line-requires-clause-n_in_bounds
unfolding opening_text bytes
put_line-requires-clause-n_in_bounds c = rw c.from.ensures (room_front _ c.requires)

pub put_line-requires-2-clause-n_in_bounds : goal.put_line-requires-2-clause-n_in_bounds
unfolding opening_text bytes
put_line-requires-2-clause-n_in_bounds c = rw c.from-2.ensures (room_behind c.requires (rw c.from.ensures at c.put_line.ensures))

pub returns : goal.returns
unfolding opening_text bytes
returns c = then (rw c.from.ensures at c.put_line.ensures) (rw c.from-2.ensures at c.put_line-2.ensures)
