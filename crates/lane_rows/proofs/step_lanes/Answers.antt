-- `step_lanes` writes so many lanes of the memo's next row: the row before it, copied; the least of that and a row's sum; stored, and summed.
use Prim.Native.Nat.{ℕ, ◌+◌, ◌-◌, ◌*◌, ◌<◌}
use mathlib.Core.Path.{◌≡◌, ap, ◌∙◌}
use native.Mathlib.Omega.{arith}
use lib.ListN.{get_or}
use Rattle.lane_rows.specs.Layout.{lane_count_lem}
use Rattle.lane_rows.specs.Rows.{step_of}
use Rattle.lane_rows.proofs.Window.{window_at, window_length}
use Rattle.lane_rows.proofs.Lanes.{sum_same}
use Rattle.lane_rows.proofs.step_lanes.Goals as goal
use Rattle.lane_rows.proofs.step_lanes.Goals.{After-store_row, After-min_row}

pub store_row-requires : goal.store_row-requires
store_row-requires c = (omega (arith, c.requires.narrow), window_length c.args.w.now (c.args.out - lane_count_lem) (omega (arith, c.requires.behind, c.requires.room)), omega arith)

-- the row before, copied
copied : (c : After-store_row) (q : ℕ) → let a = c.args in q < a.fours * 4 → get_or c.store_row.new.w q 0 ≡ get_or a.w.now (a.out - lane_count_lem + q) 0
copied c q l =
    let z : q ≡ 0 + q = omega arith in
    ap (λ (x : ℕ). get_or c.store_row.new.w x 0) z ∙ c.store_row.ensures.done q l ∙ window_at c.args.w.now (c.args.out - lane_count_lem) (omega (arith, c.requires.behind, c.requires.room)) q (omega (arith, c.requires.narrow))

pub min_row-requires : goal.min_row-requires
min_row-requires c = let a = c.args in
    record {
      few = omega (arith, c.requires.narrow);
      row = window_length a.w.now a.d c.requires.row;
      table = window_length a.t.now a.e c.requires.table;
      lanes = omega (arith, c.store_row.ensures.size);
      most = λ q l. omega (arith, copied (goal.at.min_row-requires c).After-store_row q l, c.requires.most q l);
      sums = λ q l. omega (arith, c.requires.sums q l, window_at a.w.now a.d c.requires.row q (omega (arith, c.requires.narrow)), window_at a.t.now a.e c.requires.table q (omega (arith, c.requires.narrow)));
    }

pub total-requires : goal.total-requires
total-requires c = (omega (arith, c.requires.narrow), omega (arith, c.min_row.ensures.size, c.store_row.ensures.size), λ q l. omega (arith, c.min_row.ensures.lanes q l, copied (goal.at.total-requires c).After-store_row q l, c.requires.most q l))

-- the least of it and the row's sum
stepped : (c : After-min_row) → let a = c.args in ((q : ℕ) → q < a.fours * 4 → get_or c.store_row.new.w q 0 ≡ get_or a.w.now (a.out - lane_count_lem + q) 0) → (q : ℕ) → q < a.fours * 4 → get_or c.min_row.new.acc q 0 ≡ step_of a.t.now a.w.now a.d a.e a.out q
stepped c k q l =
    let a = c.args in
    omega (
      arith,
      c.min_row.ensures.lanes q l,
      k q l,
      window_at a.w.now a.d c.requires.row q (omega (arith, c.requires.narrow)),
      window_at a.t.now a.e c.requires.table q (omega (arith, c.requires.narrow)),
    )

pub returns : goal.returns
returns c = let a = c.args in
    let f = c.store_row-2.ensures in
    record {
      stored = record { size = f.size; done = λ q l. f.done q l ∙ stepped (goal.at.returns c).After-min_row (copied (goal.at.returns c).After-store_row) q l; rest = f.rest };
      sum = c.total.ensures ∙ sum_same (a.fours * 4) (λ (q : ℕ). get_or c.min_row.new.acc q 0) (step_of a.t.now a.w.now a.d a.e a.out) (stepped (goal.at.returns c).After-min_row (copied (goal.at.returns c).After-store_row));
    }
