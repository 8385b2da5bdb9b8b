use Prim.Native.Nat.{◌≤◌}
use lib.ListN.{length}
use Rattle.model.specs.LowerBound.{offers}
use Rattle.model.specs.LastYes.{mark_in}
use Rattle.least.proofs.Table.{Chosen}
use Rattle.least.proofs.offers.PartOffers.choice.Given as goal

abbrev pub invariant-loop-k : goal.invariant-loop-k
invariant-loop-k l = let s = l.self in
    (l.i ≤ l.k) × Chosen (length s.positions.now) s.life s.end s.first (offers s.positions.now s.prices.now s.allowed.now) (mark_in s.first s.positions.now l.i) l.changed-items l.k
