-- `put_row` makes the row of j from that of j + 1, in place. The invariant: its first m numbers are made, and the others stay.
use Prim.Native.Nat.{◌+◌}
use mathlib.Core.Path.{◌≡◌, ◌∙◌}
use native.Mathlib.Omega.{arith}
use lib.ListN.{get_or}
use Rattle.base.proofs.Filled.{filled_none, filled_more}
use Rattle.node_counts.specs.Row.{sum_of}
use Rattle.node_counts.proofs.Rows.{row_most}
use Rattle.node_counts.proofs.PartGaps.put_row.Goals as goal
use Rattle.node_counts.proofs.PartGaps.put_row.Goals.{In-loop-m}

-- the number that stands at m has not been made yet
old : (c : In-loop-m) → get_or c.loop-m.row c.loop-m.m 0 ≡ get_or c.args.row.now c.loop-m.m 0
old c = c.loop-m.invariant.rest c.loop-m.m (λ y h e. omega (arith, h, e))

pub bounds-row-j : goal.bounds-row-j
bounds-row-j c = omega (arith, c.requires.0, c.requires.1.size)

pub loop-m-init : goal.loop-m-init
loop-m-init c = filled_none

pub bounds-row-m : goal.bounds-row-m
bounds-row-m c = omega (arith, c.loop-m-test.true, c.requires.0, c.requires.1.size, c.loop-m.invariant.size)

pub sum-requires : goal.sum-requires
sum-requires c = let r = c.requires.1 in
    (omega (arith, old (goal.at.sum-requires c).In-loop-m, row_most _ _ _ _ r c.loop-m.m (omega (arith, c.loop-m-test.true))), row_most _ _ _ _ r (c.args.j + 1) (omega arith))

pub bounds-row-m-in-loop-m : goal.bounds-row-m-in-loop-m
bounds-row-m-in-loop-m c = omega (arith, c.loop-m-test.true, c.requires.0, c.requires.1.size, c.loop-m.invariant.size)

pub loop-m-preserved : goal.loop-m-preserved
loop-m-preserved c = let l = c.loop-m in
    filled_more c.sum.result (omega (arith, c.loop-m-test.true, c.requires.0, c.requires.1.size)) (λ y h e. omega (arith, h, e))
    (c.sum.ensures ∙ (λ x. sum_of (c.reaches.ensures x) (old (goal.at.loop-m-preserved c).In-loop-m x) (get_or c.args.row.now (c.args.j + 1) 0)))
    l.invariant

pub shape_of-row : goal.shape_of-row
shape_of-row c = c.loop-m.invariant.size

pub returns : goal.returns
returns c = let l = c.loop-m in
    let e : l.m ≡ c.args.j + 1 = omega arith in
    rw e at l.invariant
