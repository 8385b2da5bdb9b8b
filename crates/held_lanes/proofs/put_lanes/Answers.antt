-- `put_lanes` stores the lanes that are picked by the set's masks.
use Prim.Native.Nat.{ℕ, ◌*◌, ◌<◌}
use mathlib.Core.Path.{◌≡◌, ◌∙◌}
use mathlib.Core.Bool.{cond}
use native.Mathlib.Omega.{arith}
use lib.Dec.{eqb}
use lib.ListN.{get_or, get_or-replicate}
use Rattle.lane_rows.specs.Layout.{lane_count_lem, inf}
use Rattle.lane_rows.proofs.Window.{window_at}
use Rattle.held_lanes.specs.Places.{pending_row, pending_place}
use Rattle.held_lanes.specs.Tables.{shut_row}
use Rattle.held_lanes.proofs.Sets.{pick_mask}
use Rattle.held_lanes.proofs.put_lanes.Goals as goal
use Rattle.held_lanes.proofs.put_lanes.Goals.{After-pick_row}

-- the lanes that are picked
lanes : (c : After-pick_row) → let s = c.args in
    (q : ℕ) → q < s.fours * 4 → get_or c.pick_row.new.acc q 0 ≡ shut_row s.v.now s.rows s.set q
lanes c q l =
    let s = c.args in
    let p = c.requires in
    let k : q < lane_count_lem = omega (arith, p.narrow) in
    c.pick_row.ensures.lanes q l
    ∙ (λ i. cond (eqb (c.spread.ensures.lanes q l i) 0) (window_at s.v.now (pending_row s.rows) (omega (arith, p.few)) q k i) (get_or-replicate {A = ℕ} lane_count_lem q inf 0 k i))
    ∙ pick_mask s.set q (get_or s.v.now (pending_place s.rows q) 0) inf

pub returns : goal.returns
returns c = let f = c.store_row.ensures in
    record { size = f.size; done = λ q l. f.done q l ∙ lanes (goal.at.returns c).After-pick_row q l; rest = f.rest }
