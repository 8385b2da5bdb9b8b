use Rattle.fair_shares.specs.Checked.{Kept}
use Rattle.fair_shares.proofs.check.Given as goal

abbrev pub invariant-loop-r : goal.invariant-loop-r
invariant-loop-r l = let s = l.shares in Kept s.raw.now s.prices.now s.fees.now s.removals.now s.things l.initial.x l.x l.r
