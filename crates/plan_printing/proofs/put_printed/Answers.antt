-- `put_printed`: the line of the cost at the low ends, where it is due, and behind it the plan's lines.
use Rattle.line_writing.proofs.Putting.{then, room_front, room_behind}
use Rattle.plan_printing.specs.Printed.{printed_lines}
use Rattle.plan_printing.proofs.put_printed.Goals as goal

pub put_low-requires : goal.put_low-requires
unfolding printed_lines
put_low-requires c = room_front _ c.requires.plan_in_bounds

pub put_plan-requires : goal.put_plan-requires
unfolding printed_lines
put_plan-requires c = record { cost_printable = c.requires.cost_printable; plan_in_bounds = room_behind c.requires.plan_in_bounds c.put_low.ensures }

pub returns : goal.returns
unfolding printed_lines
returns c = then c.put_low.ensures c.put_plan.ensures
