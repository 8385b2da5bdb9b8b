-- `highest_lanes` takes one mark more each time. The invariant: each lane has its highest number over the first marks.
use Prim.Native.Nat.{ℕ, ◌+◌}
use mathlib.Core.Path.{◌≡◌, sym, ap, ◌∙◌}
use native.Mathlib.Omega.{arith}
use lib.ListN.{get_or, get_or-replicate}
use Rattle.lane_rows.specs.Layout.{lane_count_lem, suffix_base, place}
use Rattle.free_sources.specs.Free.{higher, highest_in}
use Rattle.free_sources.proofs.Filling.{highest_none, highest_next}
use Rattle.free_sources.proofs.highest_lanes.Goals as goal

pub loop-m-init : goal.loop-m-init
loop-m-init c = (omega arith, omega arith, λ q l. get_or-replicate {A = ℕ} lane_count_lem q 0 0 l ∙ sym (highest_none c.args.t.now c.args.level q))

pub raise-requires : goal.raise-requires
raise-requires c = (omega (arith, c.loop-m-test.true), c.requires, omega (arith, c.loop-m.invariant.1))

pub loop-m-preserved : goal.loop-m-preserved
loop-m-preserved c = let l = c.loop-m in
    let t = c.args.t.now in (
      omega (arith, c.loop-m-test.true),
      c.raise.ensures.size ∙ l.invariant.1,
      λ q g. c.raise.ensures.lanes q g ∙ ap (λ (v : ℕ). higher v (get_or t (place suffix_base c.args.level l.m q) 0)) (l.invariant.2 q g) ∙ sym (highest_next t c.args.level q l.m),
    )

pub returns : goal.returns
returns c = λ q g. let z : c.loop-m.m ≡ c.args.level + 1 = omega (arith, c.loop-m-test.false, c.loop-m.invariant.0) in
    c.loop-m.invariant.2 q g ∙ ap (highest_in c.args.t.now c.args.level q) z
