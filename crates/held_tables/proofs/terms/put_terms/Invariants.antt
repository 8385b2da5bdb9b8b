use mathlib.Core.Path.{◌≡◌}
use lib.ListN.{length}
use Rattle.search_tables.specs.Arrays.{sheet_of}
use Rattle.held_tables.specs.Sheet.{lanes_of}
use Rattle.held_tables.specs.Fill.{Terms}
use Rattle.held_tables.proofs.terms.put_terms.Given as goal

abbrev pub invariant-loop-q : goal.invariant-loop-q
invariant-loop-q l = let n = l.numbers in (length l.tab ≡ length l.initial.tab) × Terms (sheet_of n.job.end n.job.positions.now n.job.fees.now n.job.lives.now n.job.lefts.now n.job.prices.now) (lanes_of n.job.positions.now n.job.lives.now n.job.lefts.now n.job.prices.now l.classes.lanes) l.u l.q
