-- `put_planned`: the lines of the search, and then of the plans.
use Rattle.lines.specs.Text.{bytes}
use Rattle.line_writing.proofs.Putting.{then, room_front, room_behind}
use Rattle.planning.specs.Plan.{search_lines}
use Rattle.hall_printing.specs.Lines.{hall_planned_lines}
use Rattle.hall_printing.proofs.put_planned.Goals as goal

pub put_three-requires : goal.put_three-requires
unfolding hall_planned_lines search_lines bytes
put_three-requires c = (c.requires.printable.0, c.requires.printable.1, room_front _ c.requires.plans_in_bounds)

pub put_plans-requires : goal.put_plans-requires
unfolding hall_planned_lines search_lines bytes
put_plans-requires c = (c.requires.printable.2, room_behind c.requires.plans_in_bounds c.put_three.ensures)

pub returns : goal.returns
unfolding hall_planned_lines search_lines bytes
returns c = then c.put_three.ensures c.put_plans.ensures
