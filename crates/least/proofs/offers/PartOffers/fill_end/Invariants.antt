use Prim.Native.Nat.{ℕ, ◌<◌}
use mathlib.Core.Path.{◌≡◌}
use lib.ListN.{get_or}
use Rattle.least.specs.Suffix.{end_of}
use Rattle.least.proofs.offers.PartOffers.fill_end.Given as goal

abbrev pub invariant-loop-i : goal.invariant-loop-i
invariant-loop-i l = (y : ℕ) → y < l.i → get_or l.price-items y 0 ≡ end_of l.self.life l.self.end l.self.first l.self.positions.now y
