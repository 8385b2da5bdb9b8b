-- `matrix_of`: the rows before q are what the closure says of them.
use Prim.Native.Nat.{◌+◌}
use mathlib.Core.Path.{sym, subst}
use native.Mathlib.Omega.{arith}
use Rattle.coming_out.specs.Rows.{Rows}
use Rattle.coming_out.proofs.Rows.{rows_more}
use Rattle.coming_out.proofs.fill.matrix_of.Goals as goal

pub loop-q-preserved : goal.loop-q-preserved
loop-q-preserved g c f said = let l = c.loop-q in
    subst (Rows (l.q + 1) f) (sym c.put_row.ensures.0)
    (rows_more f l.q l.matrix c.row-marks.result (omega (arith, c.loop-q-test.true, c.requires.few)) (said l.q _ c.loop-q-test.true c.put_row.ensures.1 c.row-marks.ensures) (l.invariant f said))
