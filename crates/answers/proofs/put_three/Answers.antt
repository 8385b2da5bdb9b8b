-- `put_three`: one line behind two.
use Rattle.line_writing.proofs.Putting.{then, room_front, room_behind}
use Rattle.answers.proofs.put_three.Goals as goal

pub put_two-requires : goal.put_two-requires
put_two-requires c = (c.requires.0, room_front _ c.requires.2)

pub put_line-requires : goal.put_line-requires
put_line-requires c = record { n_bound = c.requires.1; n_in_bounds = room_behind c.requires.2 c.put_two.ensures }

pub returns : goal.returns
returns c = then c.put_two.ensures c.put_line.ensures
