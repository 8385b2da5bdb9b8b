-- `put_planned`: the lines of the search, and behind them what is printed of the plan.
use Rattle.lines.specs.Text.{bytes}
use Rattle.line_writing.proofs.Putting.{then, room_front, room_behind}
use Rattle.planning.specs.Plan.{search_lines, planned_lines}
use Rattle.planning.proofs.put_planned.Goals as goal

pub put_three-requires : goal.put_three-requires
unfolding planned_lines search_lines bytes
put_three-requires c = (c.requires.printable.0, c.requires.printable.1, room_front _ c.requires.plan_in_bounds)

pub put_printed-requires : goal.put_printed-requires
unfolding planned_lines search_lines bytes
put_printed-requires c = record { cost_printable = c.requires.printable.2; plan_in_bounds = room_behind c.requires.plan_in_bounds c.put_three.ensures }

pub returns : goal.returns
unfolding planned_lines search_lines bytes
returns c = then c.put_three.ensures c.put_printed.ensures
