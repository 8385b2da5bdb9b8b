use Prim.Native.Nat.{◌≤◌}
use Rattle.ascent_lanes.proofs.job.Scaled.trace.Given as goal

abbrev pub invariant-loop-j : goal.invariant-loop-j
invariant-loop-j l = l.j ≤ 64

abbrev pub decreases-loop-j : goal.decreases-loop-j
decreases-loop-j l = l.j
