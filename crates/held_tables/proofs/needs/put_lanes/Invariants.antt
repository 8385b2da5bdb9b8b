use Prim.Native.Nat.{ℕ, ◌<◌}
use lib.ListN.{get_or}
use Rattle.held_tables.specs.Fill.{LaneSet}
use Rattle.held_tables.proofs.needs.put_lanes.Given as goal

abbrev pub invariant-loop-b : goal.invariant-loop-b
invariant-loop-b l = (y : ℕ) → y < l.b → LaneSet l.needs.marks.now l.classes y (get_or l.set-items y 0)
