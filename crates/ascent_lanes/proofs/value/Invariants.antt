use Prim.Native.Nat.{◌*◌, ◌≤◌}
use Rattle.lane_rows.specs.Layout.{inf}
use Rattle.ascent_lanes.proofs.value.Given as goal

abbrev pub invariant-loop-y : goal.invariant-loop-y
invariant-loop-y l = l.z ≤ l.y-index * inf
