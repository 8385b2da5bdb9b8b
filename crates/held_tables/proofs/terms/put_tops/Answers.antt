-- `put_tops` writes the largest terms. The invariant: the first j are written.
use Prim.Native.Nat.{ℕ}
use mathlib.Core.Path.{◌∙◌}
use lib.ListN.{get_or}
use Rattle.base.proofs.Filled.{filled_none, filled_more}
use Rattle.lane_rows.proofs.Rising.{row_inside}
use Rattle.held_lanes.specs.Places.{class_place}
use Rattle.held_lanes.proofs.Most.{most_same}
use Rattle.held_tables.proofs.Ends.{filled_all}
use native.Mathlib.Omega.{arith}
use Rattle.held_tables.proofs.terms.put_tops.Goals as goal

pub loop-j-init : goal.loop-j-init
loop-j-init c = filled_none

pub loop-j-preserved : goal.loop-j-preserved
loop-j-preserved c = let l = c.loop-j in
    let a = c.args in
    let j = l.j in
    let t = row_inside j j 65 (omega arith) (omega (arith, a.numbers.now.job.arrays.few, l.invariant, c.loop-j-test.true)) in
    filled_more c.top_of.result (omega (arith, a.numbers.now.job.arrays.few)) (λ y h e. omega (arith, e))
    (c.top_of.ensures ∙ most_same (λ (x : ℕ). get_or l.u (class_place j j x) 0) (λ (x : ℕ). get_or a.u.now (class_place j j x) 0) a.classes.now.count (λ x h. l.invariant.rest (class_place j j x) (λ y g e. omega (arith, e, t, h, a.classes.now.led.most))))
    l.invariant

pub returns : goal.returns
returns c = filled_all c.loop-j.invariant (omega arith)
