-- `end`: by whether anything is left.
use mathlib.Core.Path.{sym}
use Rattle.lines.proofs.Parsing.{nothing_left, more_left}
use Rattle.lines.proofs.rows.Lines.end.Goals as goal

pub returns-then-is_empty : goal.returns-then-is_empty
returns-then-is_empty c = nothing_left c.args.self.now (sym c.if-is_empty.ensures)

pub returns-else-is_empty : goal.returns-else-is_empty
returns-else-is_empty c = rw c.fault.ensures (more_left c.args.self.now (sym c.if-is_empty.ensures))
