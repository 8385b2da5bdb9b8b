use Prim.Native.Nat.{ℕ, ◌≤◌, ◌<◌}
use mathlib.Core.Path.{◌≡◌}
use lib.ListN.{length, get_or}
use Rattle.model.specs.Limits.{most_parts}
use Rattle.holding_parts.proofs.Places.{Found}
use Rattle.holding_parts.proofs.places_of.Given as goal

abbrev pub invariant-loop-j : goal.invariant-loop-j
invariant-loop-j l = (l.count ≤ l.j) × (length l.places ≡ most_parts) × Found l.fn.marks l.j l.count l.places × ((b : ℕ) → b < l.count → get_or l.places b 0 < most_parts)
