-- `check_row`: what the row offers, and all or nothing of it.
use Prim.Native.Nat.{ℕ}
use mathlib.Core.Path.{sym, ap, ◌∙◌}
use mathlib.Core.Bool.{Bool, cond}
use native.Mathlib.Omega.{arith}
use borrow.Author.Tests.{le-leb, lt-leb}
use lib.ListN.{get_or}
use Rattle.lane_rows.specs.Layout.{lane_count_lem}
use Rattle.lane_rows.specs.Rows.{sum_lanes}
use Rattle.lane_rows.proofs.Lanes.{sum_same}
use Rattle.fair_shares.specs.Checked.{offer, cost_in_lem}
use Rattle.base.proofs.Bools.{blank}
use Rattle.fair_shares.proofs.Rows.{filled_as, offer_small}
use Rattle.fair_shares.proofs.check_row.Goals as goal

pub total-requires : goal.total-requires
total-requires c = let o = c.offer_row.ensures in
    let s = c.args.shares.now in
    (omega arith, omega (arith, o.size), λ q l. omega (arith, o.lanes q l, offer_small s.raw.now c.args.x.now s.prices.now s.things c.args.r q))

pub returns-then-cost-total : goal.returns-then-cost-total
returns-then-cost-total c = let a = c.args in
    let o = c.offer_row.ensures in
    let f = offer a.shares.now.raw.now a.x.now a.shares.now.prices.now a.shares.now.things a.r in
    let s = sum_same lane_count_lem (λ (q : ℕ). get_or c.offer_row.new.acc q 0) f o.lanes in
    let e = lt-leb (sum_lanes lane_count_lem f) (cost_in_lem a.shares.now.fees.now a.shares.now.removals.now a.r) (omega (arith, s, c.if-cost-total.true, c.total.ensures, c.from-cost.ensures, c.cost_in.ensures)) in
    filled_as (λ q l. blank 0 16 q ∙ sym (ap (λ (b : Bool). cond b (f q) 0) e)) c.store_row.ensures

pub returns : goal.returns
returns c = let a = c.args in
    let o = c.offer_row.ensures in
    let f = offer a.shares.now.raw.now a.x.now a.shares.now.prices.now a.shares.now.things a.r in
    let s = sum_same lane_count_lem (λ (q : ℕ). get_or c.offer_row.new.acc q 0) f o.lanes in
    let e = le-leb (sum_lanes lane_count_lem f) (cost_in_lem a.shares.now.fees.now a.shares.now.removals.now a.r) (omega (arith, s, c.if-cost-total.false, c.total.ensures, c.from-cost.ensures, c.cost_in.ensures)) in
    filled_as (λ q l. o.lanes q l ∙ sym (ap (λ (b : Bool). cond b (f q) 0) e)) c.store_row-2.ensures
