-- `Parts::of` has the numbers of the parts.
use native.Mathlib.Omega.{arith}
use Rattle.base.proofs.Diff.{back}
use Rattle.held_tables.proofs.Sheets.{arrays_of, lanes_are}
use Rattle.held_search.proofs.parts.Parts.of.Goals as goal

pub invariant_of-result : goal.invariant_of-result
invariant_of-result c = let n = c.args.numbers.now in
    record { lanes = rw (back n.job.end (omega (arith, n.job.arrays.late)), c.needs.ensures.holding) (lanes_are (arrays_of n)) }
