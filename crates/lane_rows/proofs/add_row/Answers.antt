-- `add_row` takes a row into the lanes: two windows of sixteen numbers.
use Prim.Native.Nat.{ℕ, ◌+◌, ◌-◌, ◌*◌, ◌<◌, ◌≤◌, min}
use mathlib.Core.Path.{◌≡◌, ap, ap₂, ◌∙◌}
use native.Mathlib.Omega.{arith}
use lib.ListN.{length, get_or, take, drop}
use Rattle.lane_rows.specs.Layout.{lane_count_lem, mark_count, place}
use Rattle.lane_rows.proofs.Rising.{row_inside}
use Rattle.lane_rows.proofs.Window.{window_at, window_length}
use Rattle.lane_rows.proofs.add_row.Goals as goal
use Rattle.lane_rows.proofs.add_row.Goals.{After-row_of-row}

abbrev at : After-row_of-row → ℕ
at c = c.args.base + (c.row_of-row.result + c.args.i) * lane_count_lem

inside : (c : After-row_of-row) → at c + lane_count_lem ≤ length c.args.t.now
inside c =
    omega (arith, row_inside c.args.j c.args.i mark_count c.requires.mark (omega (arith, c.requires.near)), c.row_of-row.ensures.rows, c.requires.table)

reads : (c : After-row_of-row) (q : ℕ) → q < lane_count_lem → let a = c.args in get_or (take (at c + lane_count_lem - at c) (drop (at c) a.t.now)) q 0 ≡ get_or a.t.now (place a.base a.j a.i q) 0
reads c q l =
    let a = c.args in
    window_at a.t.now (at c) (inside c) q l ∙ ap (λ (x : ℕ). get_or a.t.now (a.base + (x + a.i) * lane_count_lem + q) 0) c.row_of-row.ensures.rows

pub slice_bounds-min_row-end-2 : goal.slice_bounds-min_row-end-2
slice_bounds-min_row-end-2 c = omega (arith, inside (goal.at.slice_bounds-min_row-end-2 c).After-row_of-row)

pub min_row-requires : goal.min_row-requires
min_row-requires c = let a = c.args in
    record {
      few = c.requires.few;
      row = window_length a.w.now (a.n * lane_count_lem) (omega arith);
      table = window_length a.t.now (at (goal.at.min_row-requires c).After-row_of-row) (inside (goal.at.min_row-requires c).After-row_of-row);
      lanes = c.requires.lanes;
      most = c.requires.most;
      sums = λ q l. omega (arith, c.requires.sums q l, window_at a.w.now (a.n * lane_count_lem) (omega arith) q (omega (arith, c.requires.few)), reads (goal.at.min_row-requires c).After-row_of-row q (omega (arith, c.requires.few)));
    }

pub returns : goal.returns
returns c = let a = c.args in
    let e = c.min_row.ensures in
    record {
      size = e.size;
      lanes = λ q l.
          e.lanes q l
          ∙ ap₂ (λ (x y : ℕ). min (get_or a.acc.now q 0) (x + y)) (window_at a.w.now (a.n * lane_count_lem) (omega arith) q (omega (arith, c.requires.few))) (reads (goal.at.returns c).After-row_of-row q (omega (arith, c.requires.few)));
    }
