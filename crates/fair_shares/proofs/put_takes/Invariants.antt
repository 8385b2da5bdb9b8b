use Prim.Native.Nat.{ℕ, ◌<◌, ◌/◌, ◌%◌}
use mathlib.Core.Path.{◌≡◌}
use lib.ListN.{get_or}
use Rattle.fair_shares.specs.Checked.{taken}
use Rattle.fair_shares.proofs.put_takes.Given as goal

abbrev pub invariant-loop-i : goal.invariant-loop-i
invariant-loop-i l = (k : ℕ) → k < l.i → get_or l.rows k 0 ≡ taken l.needs l.parts (k / 16) (k % 16)
