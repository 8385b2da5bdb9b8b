-- `put_sources` writes a row for each mark. The invariant: those of the first marks are there.
use Prim.Native.Nat.{ℕ, ◌+◌}
use mathlib.Core.Path.{◌≡◌, subst, ◌∙◌}
use native.Mathlib.Omega.{arith}
use Rattle.lane_rows.specs.Layout.{lane_count_lem, inf}
use Rattle.lane_rows.proofs.Lanes.{sum_most}
use Rattle.free_sources.specs.Free.{highest_in, FreeRows}
use Rattle.free_sources.proofs.Filling.{highest_small, rows_none, rows_more, sum_same}
use Rattle.free_sources.proofs.put_sources.Goals as goal

pub loop-m-init : goal.loop-m-init
loop-m-init c = (omega arith, rows_none c.args.t.now c.args.level c.base_row.new.w c.base_row.ensures)

pub put_source-requires : goal.put_source-requires
put_source-requires c = (omega (arith, c.loop-m-test.true), c.requires)

pub loop-m-preserved : goal.loop-m-preserved
loop-m-preserved c = (
  omega (arith, c.loop-m-test.true),
  rows_more c.args.t.now c.args.level c.loop-m.w c.put_source.new.w c.loop-m.m c.highest_lanes-tops.result c.highest_lanes-tops.ensures c.put_source.ensures.put (c.put_source.ensures.memo c.args.t.now) c.loop-m.invariant.1,
)

pub total-requires : goal.total-requires
total-requires c = (omega arith, omega arith, λ q l. omega (arith, c.highest_lanes-tops.ensures q l, highest_small c.args.t.now c.args.level q (c.args.level + 1)))

pub returns-clause-rows : goal.returns-clause-rows
returns-clause-rows c = let z : c.loop-m.m ≡ c.args.level + 1 = omega (arith, c.loop-m-test.false, c.loop-m.invariant.0) in
    subst (FreeRows c.args.t.now c.args.level c.loop-m.w) z c.loop-m.invariant.1

pub returns-clause-sum : goal.returns-clause-sum
returns-clause-sum c = c.total.ensures ∙ sum_same 0 lane_count_lem (λ q _ l. c.highest_lanes-tops.ensures q (omega arith))

pub returns-clause-few : goal.returns-clause-few
returns-clause-few c =
    let m = sum_most (λ (q : ℕ). highest_in c.args.t.now c.args.level q (c.args.level + 1)) inf 0 lane_count_lem (λ q. highest_small c.args.t.now c.args.level q (c.args.level + 1)) in
    omega (arith, m, c.total.ensures, sum_same 0 lane_count_lem (λ q _ l. c.highest_lanes-tops.ensures q (omega arith)))
