use Prim.Native.Nat.{ℕ, ◌+◌, ◌<◌, ◌≤◌}
use mathlib.Core.Path.{◌≡◌}
use lib.ListN.{length, get_or}
use Rattle.lane_rows.specs.Layout.{lane_count_lem}
use Rattle.free_sources.specs.Free.{highest_in}
use Rattle.free_sources.proofs.highest_lanes.Given as goal

abbrev pub invariant-loop-m : goal.invariant-loop-m
invariant-loop-m l = (l.m ≤ l.level + 1) × (length l.tops ≡ lane_count_lem) × ((q : ℕ) → q < lane_count_lem → get_or l.tops q 0 ≡ highest_in l.t l.level q l.m)
