use Rattle.search_tables.specs.Fill.{Terms}
use Rattle.search_tables.specs.Flat.{sheet_in}
use Rattle.search_tables.proofs.flat.FlatJob.put_terms.Given as goal

abbrev pub invariant-loop-q : goal.invariant-loop-q
invariant-loop-q l = Terms (sheet_in l.self) l.initial.t l.t l.q
