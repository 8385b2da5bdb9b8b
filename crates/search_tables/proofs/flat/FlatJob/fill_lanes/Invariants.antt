use Rattle.search_tables.specs.Fill.{Lanes}
use Rattle.search_tables.proofs.flat.FlatJob.fill_lanes.Given as goal

abbrev pub invariant-loop-q : goal.invariant-loop-q
invariant-loop-q l = let j = l.self in Lanes j.end j.positions.now j.lives.now j.lefts.now j.prices.now l.t l.q
