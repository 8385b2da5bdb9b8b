-- `put_plans`: the hall's cost, and then the lines' plans.
use Rattle.lines.specs.Text.{bytes}
use Rattle.line_writing.proofs.Putting.{then, room_front, room_behind}
use Rattle.hall_printing.specs.Lines.{plans_lines}
use Rattle.hall_printing.proofs.put_plans.Goals as goal

pub put_line-requires : goal.put_line-requires
unfolding plans_lines bytes
put_line-requires c = record { n_bound = c.requires.0; n_in_bounds = room_front _ c.requires.1 }

pub put_lines-requires : goal.put_lines-requires
unfolding plans_lines bytes
put_lines-requires c = room_behind c.requires.1 c.put_line.ensures

pub returns : goal.returns
unfolding plans_lines bytes
returns c = then c.put_line.ensures c.put_lines.ensures
