-- `table` makes the rows from the last back. The invariant: the row of j stands.
use Prim.Native.Nat.{ℕ, ◌+◌, ◌-◌}
use mathlib.Core.Path.{◌≡◌, refl, sym, ◌∙◌}
use native.Mathlib.Omega.{arith}
use lib.ListN.{length, replicate, get_or-replicate}
use Rattle.node_counts.proofs.Rows.{row_last, row_next, row_first}
use Rattle.node_counts.proofs.PartGaps.table.Goals as goal

pub loop-j-init : goal.loop-j-init
loop-j-init c = let size : length {A = ℕ} (replicate 65 1) ≡ 65 = refl in
    (refl, row_last _ _ (replicate 65 1) (omega (arith, size, c.args.self.now.few)) (λ m h. get_or-replicate 65 m 1 0 (omega (arith, h, c.args.self.now.few))))

pub slice_bounds-put_row-end : goal.slice_bounds-put_row-end
slice_bounds-put_row-end c = sym c.loop-j.invariant.0

pub put_row-requires : goal.put_row-requires
put_row-requires c = let l = c.loop-j in
    let z : l.j - 1 + 1 ≡ l.j = omega (arith, c.loop-j-test.true) in (
      omega (arith, c.loop-j-test.true),
      rw z l.invariant.1,
    )

pub loop-j-preserved : goal.loop-j-preserved
loop-j-preserved c = let l = c.loop-j in
    let put = c.put_row.ensures in
    let z : l.j - 1 + 1 ≡ l.j = omega (arith, c.loop-j-test.true) in (
      put.size ∙ l.invariant.0,
      row_next _ _ (l.j - 1) l.row _ (omega (arith, c.loop-j-test.true)) (rw z l.invariant.1) put,
    )

pub returns : goal.returns
returns c = let l = c.loop-j in
    let e : l.j ≡ 0 = omega (arith, c.loop-j-test.false) in
    row_first _ _ l.j l.row e l.invariant.1
