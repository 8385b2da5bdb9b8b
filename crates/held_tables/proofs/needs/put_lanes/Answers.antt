-- `put_lanes` writes the set of each holding part. The invariant: the first b are written.
use Prim.Native.Nat.{ℕ, ◌+◌, ◌-◌}
use Rattle.std.proofs.Common.{arith}
use mathlib.Core.Path.{sym, subst}
use borrow.Author.Count.{below_more}
use lib.ListN.{get_or, set}
use lib.Seq.{get_or-set_same, get_or-set_other}
use Rattle.base.proofs.Filled.{filled_part}
use Rattle.model.specs.Limits.{most_parts}
use Rattle.held_lanes.specs.Places.{removal_base}
use Rattle.held_tables.specs.Fill.{LaneSet}
use Rattle.held_tables.proofs.needs.put_lanes.Goals as goal

pub loop-b-preserved : goal.loop-b-preserved
loop-b-preserved c = let l = c.loop-b in
    let v = c.lane_set.result in
    let right = LaneSet c.args.needs.now.marks.now c.args.classes.now in
    below_more (λ (y : ℕ). right y (get_or (set l.set-items l.b v) y 0)) l.b
    (λ y h. subst (right y) (sym (get_or-set_other l.set-items l.b y v 0 (λ z. omega (arith, z, h)))) (l.invariant y h))
    (subst (right l.b) (sym (get_or-set_same l.set-items l.b v 0 (omega (arith, c.loop-b-test.true, l.auto.set-items)))) c.lane_set.ensures)

pub returns : goal.returns
returns c = let a = c.args in
    let n = a.needs.now.holding in
    let at = removal_base + most_parts in
    let r = filled_part a.u.now c.loop-b.set-items at n (at + n - at) (omega arith) (omega (arith, a.needs.now.few)) (omega (arith, a.needs.now.few)) in
    record {
      size = r.size;
      done = λ y h. subst (LaneSet a.needs.now.marks.now a.classes.now y) (sym (r.done y h)) (c.loop-b.invariant y (omega (arith, h, a.needs.now.few)));
      rest = r.rest;
    }
