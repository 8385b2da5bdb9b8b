-- `none_rows` writes the memo's rows of no rows. The invariant: those of the first levels are written.
use mathlib.Core.Path.{◌≡◌, subst}
use native.Mathlib.Omega.{arith}
use Rattle.lane_rows.specs.Layout.{mark_count}
use Rattle.lane_rows.specs.Rows.{Nones}
use Rattle.lane_rows.proofs.Memory.{nones_none, nones_more}
use Rattle.lane_rows.proofs.none_rows.Goals as goal

pub loop-l-init : goal.loop-l-init
loop-l-init c = (omega arith, nones_none c.args.w.now)

pub none_row-requires : goal.none_row-requires
none_row-requires c = omega (arith, c.loop-l-test.true)

pub loop-l-preserved : goal.loop-l-preserved
loop-l-preserved c = (omega (arith, c.loop-l-test.true), nones_more c.args.w.now c.loop-l.w _ c.loop-l.l c.none_row.ensures c.loop-l.invariant.1)

pub returns : goal.returns
returns c = let l = c.loop-l in
    let z : l.l ≡ mark_count = omega (arith, c.loop-l-test.false, l.invariant.0) in
    subst (Nones c.args.w.now l.w) z l.invariant.1
