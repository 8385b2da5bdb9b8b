-- `put_two`: one line behind the other.
use native.Mathlib.Omega.{arith}
use Rattle.lines.specs.Text.{bytes, line_of}
use Rattle.line_writing.specs.Puts.{Puts}
use Rattle.line_writing.proofs.Putting.{then, room_front, room_behind}
use Rattle.answers.proofs.put_two.Goals as goal
use Rattle.answers.proofs.put_two.Goals.{After-put_line}

-- the result's line
first : (c : After-put_line) → Puts c.args.out.now (line_of "result=" c.args.number) c.put_line.new.self
unfolding bytes
first c = rw (← c.from.ensures) c.put_line.ensures

pub put_line-requires : goal.put_line-requires
unfolding bytes
put_line-requires c = rw c.from.ensures (record { n_bound = omega (arith, c.ranges.number.fits); n_in_bounds = room_front _ c.requires.1 })

pub put_line-requires-2 : goal.put_line-requires-2
unfolding bytes
put_line-requires-2 c = record { n_bound = c.requires.0; n_in_bounds = room_behind c.requires.1 (first (goal.at.put_line-requires-2 c).After-put_line) }

pub returns : goal.returns
unfolding bytes
returns c = then (first (goal.at.returns c).After-put_line) c.put_line-2.ensures
