use Prim.Native.Nat.{ℕ, ◌<◌}
use mathlib.Core.Path.{◌≡◌}
use lib.ListN.{get_or}
use Rattle.held_lanes.specs.Places.{offset}
use Rattle.held_walk.proofs.first_marks.Given as goal

abbrev pub invariant-loop-c : goal.invariant-loop-c
invariant-loop-c l = (y : ℕ) → y < l.c → get_or l.mark-items y 0 ≡ offset 0 y
