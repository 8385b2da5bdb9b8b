-- `least_rows` is each lane over the rows. The invariant: over the first of them.
use Prim.Native.Nat.{ℕ, ◌+◌, min}
use mathlib.Core.Path.{refl, sym, ap, ◌∙◌}
use native.Mathlib.Omega.{arith}
use native.Mathlib.Numerals.{add-one}
use lib.ListN.{get_or}
use Rattle.lane_rows.specs.Layout.{place, row_place, mark_place}
use Rattle.lane_rows.specs.Rows.{lane}
use Rattle.lane_rows.proofs.Lanes.{lane_most, lane_nil, lane-suc}
use Rattle.lane_rows.proofs.least_rows.Goals as goal

pub loop-n-init : goal.loop-n-init
loop-n-init c = let a = c.args in (refl, λ q l. c.requires.2 q l ∙ sym (lane_nil a.t.now a.w.now a.base a.j q))

pub overflow_cast-i : goal.overflow_cast-i
overflow_cast-i c = omega (arith, c.type_inv.w (mark_place c.loop-n.n))

pub add_row-requires : goal.add_row-requires
add_row-requires c = let a = c.args in
    let l = c.loop-n in
    let s = c.requires.0 in
    record {
      few = omega (arith, s.narrow);
      lanes = omega (arith, l.invariant.0, c.requires.1);
      table = s.table;
      size = s.size;
      near = s.near;
      mark = s.marks l.n c.loop-n-test.true;
      row = omega (arith, s.few, s.near);
      most = λ q h. omega (arith, l.invariant.1 q h, lane_most a.t.now a.w.now a.base a.j q l.n);
      sums = λ q h. s.sums l.n q c.loop-n-test.true h;
    }

pub loop-n-preserved : goal.loop-n-preserved
loop-n-preserved c = let a = c.args in
    let l = c.loop-n in
    let e = c.add_row.ensures in (
      e.size ∙ l.invariant.0,
      λ q h. e.lanes q h
          ∙ ap (λ (x : ℕ). min x (get_or a.w.now (row_place l.n q) 0 + get_or a.t.now (place a.base a.j (get_or a.w.now (mark_place l.n) 0) q) 0)) (l.invariant.1 q h)
          ∙ sym (lane-suc a.t.now a.w.now a.base a.j q l.n) ∙ ap (lane a.t.now a.w.now a.base a.j q) (sym (add-one l.n)),
    )
