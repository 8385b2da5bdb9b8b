-- `put_quote`: one line, or those of the two ends.
use mathlib.Core.Path.{sym}
use Rattle.lines.specs.Text.{bytes}
use Rattle.line_writing.proofs.Putting.{then, same, room_same, room_front, room_behind}
use Rattle.quote_writing.proofs.Pieces.{quote_single, quote_pair}
use Rattle.quote_writing.proofs.put_quote.Goals as goal

pub put_line-requires-clause-n_in_bounds : goal.put_line-requires-clause-n_in_bounds
unfolding bytes
put_line-requires-clause-n_in_bounds c = rw c.from.ensures (room_same c.requires (quote_single _ c.args.high c.in-None.is))

pub put_line-requires-in-Some-clause-n_in_bounds : goal.put_line-requires-in-Some-clause-n_in_bounds
unfolding bytes
put_line-requires-in-Some-clause-n_in_bounds c = rw c.from-in-Some.ensures (room_front _ (room_same c.requires (quote_pair _ c.in-Some.low c.args.high c.in-Some.is)))

pub put_line-requires-in-Some-2-clause-n_in_bounds : goal.put_line-requires-in-Some-2-clause-n_in_bounds
unfolding bytes
put_line-requires-in-Some-2-clause-n_in_bounds c = rw c.from-in-Some-2.ensures (room_behind (room_same c.requires (quote_pair _ c.in-Some.low c.args.high c.in-Some.is)) (rw c.from-in-Some.ensures at c.put_line-in-Some.ensures))

pub returns-in-None : goal.returns-in-None
unfolding bytes
returns-in-None c = same (rw c.from.ensures at c.put_line.ensures) (sym (quote_single _ c.args.high c.in-None.is))

pub returns-in-Some : goal.returns-in-Some
unfolding bytes
returns-in-Some c = same (then (rw c.from-in-Some.ensures at c.put_line-in-Some.ensures) (rw c.from-in-Some-2.ensures at c.put_line-in-Some-2.ensures)) (sym (quote_pair _ c.in-Some.low c.args.high c.in-Some.is))
