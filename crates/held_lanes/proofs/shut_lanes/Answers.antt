-- `shut_lanes` is the sum of the lanes that are picked by the set's masks.
use Prim.Native.Nat.{ℕ, ◌+◌, ◌*◌, ◌≤◌, ◌<◌}
use mathlib.Core.Path.{◌≡◌, sym, subst, ◌∙◌}
use mathlib.Core.Bool.{Bool, true, false, cond}
use native.Mathlib.Omega.{arith}
use lib.Dec.{eqb}
use lib.ListN.{get_or}
use Rattle.lane_rows.specs.Layout.{lane_count_lem, inf}
use Rattle.lane_rows.proofs.Lanes.{sum_same}
use Rattle.lane_rows.proofs.Window.{window_at}
use Rattle.held_lanes.specs.Places.{bit_at}
use Rattle.held_lanes.specs.Tables.{shut_lane}
use Rattle.held_lanes.proofs.Sets.{pick_mask}
use Rattle.held_lanes.proofs.shut_lanes.Goals as goal
use Rattle.held_lanes.proofs.shut_lanes.Goals.{After-pick_row}

-- the lanes that are picked
lanes : (c : After-pick_row) → let s = c.args in
    (q : ℕ) → q < s.fours * 4 → get_or c.pick_row.new.acc q 0 ≡ shut_lane s.w.now s.«yes» s.«no» s.set q
lanes c q l =
    let s = c.args in
    let p = c.requires in
    let k : q < lane_count_lem = omega (arith, p.narrow) in
    c.pick_row.ensures.lanes q l
    ∙ (λ i. cond (eqb (c.spread.ensures.lanes q l i) 0) (window_at s.w.now s.«yes» (omega (arith, p.first)) q k i) (window_at s.w.now s.«no» (omega (arith, p.second)) q k i))
    ∙ pick_mask s.set q (get_or s.w.now (s.«yes» + q) 0) (get_or s.w.now (s.«no» + q) 0)

pub total-requires : goal.total-requires
total-requires c = let p = c.requires in (
  omega (arith, p.narrow),
  omega (arith, c.pick_row.ensures.size, c.spread.ensures.size),
  λ q l. subst (λ (x : ℕ). x ≤ inf) (sym (lanes (goal.at.total-requires c).After-pick_row q l)) (go (get_or c.args.w.now (c.args.«yes» + q) 0) (get_or c.args.w.now (c.args.«no» + q) 0) (bit_at q c.args.set) (p.most q l).0 (p.most q l).1),
)
  where
    go : (x y : ℕ) (t : Bool) → x ≤ inf → y ≤ inf → cond t y x ≤ inf
    go x y true h g = g
    go x y false h g = h

pub returns : goal.returns
returns c = let s = c.args in
    c.total.ensures ∙ sum_same (s.fours * 4) (λ (q : ℕ). get_or c.pick_row.new.acc q 0) (shut_lane s.w.now s.«yes» s.«no» s.set) (lanes (goal.at.returns c).After-pick_row)
