use Prim.Native.Nat.{◌≤◌}
use Rattle.lane_rows.specs.Layout.{mark_count}
use Rattle.lane_rows.specs.Rows.{Nones}
use Rattle.lane_rows.proofs.none_rows.Given as goal

abbrev pub invariant-loop-l : goal.invariant-loop-l
invariant-loop-l l = (l.l ≤ mark_count) × Nones l.initial.w l.w l.l
