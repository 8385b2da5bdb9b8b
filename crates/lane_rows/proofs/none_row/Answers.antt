-- `none_row` writes the memo's row of no rows.
use Prim.Native.Nat.{ℕ, ◌+◌, ◌*◌}
use native.Mathlib.Omega.{arith}
use Rattle.lane_rows.specs.Layout.{lane_count_lem, mark_count, inf, memo_base, memo_place}
use Rattle.lane_rows.proofs.Parts.{filled_with, filled_at}
use Rattle.lane_rows.proofs.Rising.{row_inside}
use Rattle.lane_rows.proofs.none_row.Goals as goal

pub returns : goal.returns
returns c = let a = c.args in
    let e = c.row_of.ensures.rows in
    let h = row_inside (a.l + 1) 0 (mark_count + 1) (omega arith) (omega (arith, c.requires)) in
    let at = memo_base + c.row_of.result * lane_count_lem in
    filled_at (λ (q : ℕ). at + q) (memo_place a.l 0) (λ (q : ℕ). omega (arith, e))
    (filled_with a.w.now c.fill.new.self at (at + lane_count_lem) inf lane_count_lem (omega arith) (omega (arith, h, e)) (c.fill.ensures.after (λ y e. e)))
