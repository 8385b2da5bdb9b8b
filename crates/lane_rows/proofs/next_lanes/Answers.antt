-- `next_lanes` is the row of a stop: the least price from which the opening is in reach, and its own.
use Prim.Native.Nat.{ℕ, ◌+◌, ◌*◌}
use mathlib.Core.Path.{ap₂, ◌∙◌}
use native.Mathlib.Omega.{arith}
use Rattle.lane_rows.specs.Layout.{lane_count_lem, reach_base, price_base}
use Rattle.lane_rows.proofs.Window.{window_at, window_length}
use Rattle.lane_rows.proofs.Lanes.{lane_most}
use Rattle.lane_rows.proofs.next_lanes.Goals as goal
use Rattle.lane_rows.proofs.next_lanes.Goals.{Start}

-- the prices of the opening, lane by lane
abbrev from : Start → ℕ
from s = price_base + s.args.j * lane_count_lem

pub plus_row-requires : goal.plus_row-requires
plus_row-requires c = let t = c.args.t.now in
    let p = c.requires.0 in
    let least = c.least_rows.ensures in
    record {
      few = omega (arith, p.stack.narrow);
      row = window_length t (from (goal.at.plus_row-requires c).Start) (omega (arith, p.size, p.near));
      lanes = omega (arith, least.size, c.requires.1);
      sums = λ q l. omega (arith, p.cheap q l, least.lanes q l, lane_most t c.args.w.now reach_base c.args.j q c.args.rows, window_at t (from (goal.at.plus_row-requires c).Start) (omega (arith, p.size, p.near)) q (omega (arith, p.stack.narrow)));
    }

pub returns : goal.returns
returns c = let p = c.requires.0 in
    let plus = c.plus_row.ensures in
    let least = c.least_rows.ensures in
    record {
      size = plus.size ∙ least.size;
      lanes = λ q l. plus.lanes q l ∙ ap₂ (λ (x y : ℕ). x + y) (least.lanes q l) (window_at c.args.t.now (from (goal.at.returns c).Start) (omega (arith, p.size, p.near)) q (omega (arith, p.stack.narrow)));
    }
