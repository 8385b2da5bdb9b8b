use Prim.Native.Nat.{ℕ, ◌*◌, ◌<◌}
use mathlib.Core.Path.{◌≡◌}
use lib.ListN.{length, get_or}
use Rattle.lane_rows.specs.Rows.{lane}
use Rattle.lane_rows.proofs.least_rows.Given as goal

abbrev pub invariant-loop-n : goal.invariant-loop-n
invariant-loop-n l = (length l.acc ≡ length l.initial.acc) × ((q : ℕ) → q < l.fours * 4 → get_or l.acc q 0 ≡ lane l.t l.w l.base l.j q l.n)
