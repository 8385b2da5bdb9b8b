-- `stay_sums` sums the lanes of a node that the test before does not drop.
use Prim.Native.Nat.{ℕ, ◌*◌, ◌≤◌}
use mathlib.Core.Path.{refl, ◌∙◌}
use Rattle.lane_rows.specs.Layout.{lane_count_lem, inf, lanes_in}
use Rattle.lane_rows.specs.Rows.{sum_lanes}
use Rattle.lane_rows.proofs.Memory.{recalled_none}
use Rattle.held_stops.specs.Stops.{stop_lane}
use Rattle.held_nodes.proofs.Given.{sums_low, stop_most}
use Rattle.search_state.proofs.Dues.{rows_drop, rows_fit, rows_open}
use Rattle.held_nodes.proofs.stay_sums.Goals as goal
use Rattle.held_nodes.proofs.stay_sums.Goals.{Start}

-- the lanes' sum
abbrev sum : Start → ℕ
sum s = let a = s.args in sum_lanes (lanes_in a.t.now) (stop_lane a.t.now a.w.now a.j a.rows a.set)

low : (s : Start) → sum s ≤ lane_count_lem * inf
low s = let a = s.args in sums_low (stop_lane a.t.now a.w.now a.j a.rows a.set) (lanes_in a.t.now) (sum s) s.requires.0.shut.stack.narrow (stop_most a.t.now a.w.now a.j a.rows a.set) refl

pub returns-in_default : goal.returns-in_default
returns-in_default c = let a = c.args in
    record {
      opens = rows_drop a.limit a.spent a.h a.x a.s c.tested.ensures (sum (goal.at.returns-in_default c).Start) c.in_default.is c.requires.1;
      frame = recalled_none a.t.now a.w.now a.rows c.requires.0.shut.memo;
    }

pub open-requires : goal.open-requires
open-requires c = let a = c.args in
    let s = (goal.at.open-requires c).Start in
    λ u f. rows_fit a.limit a.spent a.h a.x a.s c.tested.ensures (sum s) c.in-Sum.due c.shut_sum.result u c.in-Sum.is c.requires.2 (low s) c.shut_sum.ensures.sum f

pub returns : goal.returns
returns c = let a = c.args in
    record {
      opens = c.«open».ensures ∙ rows_open a.limit a.spent a.h a.x a.s c.tested.ensures (sum (goal.at.returns c).Start) c.in-Sum.due c.shut_sum.result c.in-Sum.is c.shut_sum.ensures.sum;
      frame = c.shut_sum.ensures.frame;
    }
