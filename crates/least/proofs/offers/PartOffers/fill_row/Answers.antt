-- `fill_row` writes row j from row j + 1. The invariant: its first i entries are written, and the rows above are kept.
use Prim.Native.Nat.{◌+◌}
use mathlib.Core.Path.{◌∙◌, ap}
use native.Mathlib.Omega.{arith}
use Rattle.least.specs.Suffix.{cell, code_of}
use Rattle.base.proofs.Filled.{filled_more}
use Rattle.least.proofs.offers.PartOffers.fill_row.Goals as goal

pub loop-i-preserved : goal.loop-i-preserved
loop-i-preserved c = let l = c.loop-i in
    let a = l.invariant.rest (cell (c.args.j + 1) l.i) (λ y h e. omega (arith, e)) in
    filled_more c.code.result (omega arith) (λ y l e. omega (arith, e))
    (c.code.ensures ∙ ap code_of (rw (c.changed.ensures, c.bound-skip.ensures, a) at c.lesser.ensures))
    l.invariant
