use Prim.Native.Nat.{ℕ, ◌<◌, ◌≤◌}
use mathlib.Core.Path.{◌≡◌}
use lib.ListN.{get_or}
use Rattle.lane_rows.proofs.turn.Given as goal

abbrev pub invariant-loop-q : goal.invariant-loop-q
invariant-loop-q g l =
    ((q : ℕ) → q < l.q → goal.F-post g l.f q (get_or l.initial.lane-items q 0) (get_or l.lane-items q 0))
    × ((q : ℕ) → l.q ≤ q → get_or l.lane-items q 0 ≡ get_or l.initial.lane-items q 0)
