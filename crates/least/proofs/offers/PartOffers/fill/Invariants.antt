use Rattle.least.specs.Suffix.{Suffixes}
use Rattle.least.proofs.offers.PartOffers.fill.Given as goal

abbrev pub invariant-loop-j : goal.invariant-loop-j
invariant-loop-j l = let s = l.self in Suffixes s.life s.end s.first s.positions.now s.prices.now s.allowed.now l.tab l.j
