-- `step_fours` writes the memo's next row, one four of lanes after the other. The invariant: the first fours are written.
use native.Mathlib.Omega.{arith}
use Rattle.lane_rows.proofs.Fours.{fours_none, four_asks, four_most, fours_more, fours_all}
use Rattle.lane_rows.proofs.step_fours.Goals as goal

pub loop-k-init : goal.loop-k-init
loop-k-init c = let a = c.args in fours_none a.t.now a.w.now a.d a.e a.out

pub step_lanes-four-requires : goal.step_lanes-four-requires
step_lanes-four-requires c = let a = c.args in
    four_asks a.t.now a.w.now c.loop-k.w a.d a.e a.out c.loop-k.k c.loop-k.sum c.requires c.loop-k.invariant c.loop-k-test.true

pub overflow_add-sum : goal.overflow_add-sum
overflow_add-sum c = let a = c.args in
    omega (
      arith,
      c.loop-k.invariant.most,
      c.loop-k.invariant.inside,
      c.requires.asks.narrow,
      four_most a.t.now a.w.now c.loop-k.w a.d a.e a.out c.loop-k.k c.loop-k.sum c.requires c.loop-k.invariant c.loop-k-test.true c.step_lanes-four.new.w c.step_lanes-four.result c.step_lanes-four.ensures,
    )

pub loop-k-preserved : goal.loop-k-preserved
loop-k-preserved c = let a = c.args in
    fours_more a.t.now a.w.now c.loop-k.w a.d a.e a.out c.loop-k.k c.loop-k.sum c.requires c.loop-k.invariant c.loop-k-test.true c.step_lanes-four.new.w c.step_lanes-four.result c.step_lanes-four.ensures

pub returns : goal.returns
returns c = let a = c.args in
    fours_all a.t.now a.w.now c.loop-k.w a.d a.e a.out c.loop-k.k c.loop-k.sum c.loop-k.invariant c.loop-k-test.false
