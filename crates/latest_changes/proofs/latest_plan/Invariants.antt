use mathlib.Core.Path.{◌≡◌}
use lib.ListN.{length}
use Rattle.latest_changes.proofs.Rows.{RowsTo}
use Rattle.latest_changes.proofs.latest_plan.Given as goal

abbrev pub invariant-loop-k : goal.invariant-loop-k
invariant-loop-k l = (length l.changes ≡ 16) × RowsTo l.n l.positions l.stops l.job.job.parts l.k l.changes
