-- `put_rule`: the base, the drop and the least, one behind the other.
use Rattle.lines.specs.Text.{bytes}
use Rattle.line_writing.proofs.Putting.{then, room_front, room_behind}
use Rattle.price_rules.specs.Rendering.{rule_text}
use Rattle.price_rules.proofs.put_rule.Goals as goal

pub put_line-requires-clause-n_in_bounds : goal.put_line-requires-clause-n_in_bounds
unfolding rule_text bytes
put_line-requires-clause-n_in_bounds c = rw c.from.ensures (room_front _ (room_front _ c.requires))

pub put_line-requires-2-clause-n_in_bounds : goal.put_line-requires-2-clause-n_in_bounds
unfolding rule_text bytes
put_line-requires-2-clause-n_in_bounds c = rw c.from-2.ensures (room_behind (room_front _ c.requires) (rw c.from.ensures at c.put_line.ensures))

pub put_line-requires-3-clause-n_in_bounds : goal.put_line-requires-3-clause-n_in_bounds
unfolding rule_text bytes
put_line-requires-3-clause-n_in_bounds c = rw c.from-3.ensures (room_behind c.requires (then (rw c.from.ensures at c.put_line.ensures) (rw c.from-2.ensures at c.put_line-2.ensures)))

pub returns : goal.returns
unfolding rule_text bytes
returns c = then (then (rw c.from.ensures at c.put_line.ensures) (rw c.from-2.ensures at c.put_line-2.ensures)) (rw c.from-3.ensures at c.put_line-3.ensures)
