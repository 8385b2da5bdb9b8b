-- `forget` clears what is known of so many rows from a level on.
use Prim.Native.Nat.{ℕ, ◌+◌, ◌-◌, ◌*◌}
use native.Mathlib.Omega.{arith}
use Rattle.lane_rows.specs.Layout.{mark_count, known_base, known_place}
use Rattle.lane_rows.proofs.Parts.{filled_with, filled_at}
use Rattle.lane_rows.proofs.forget.Goals as goal

pub returns : goal.returns
returns c = let a = c.args in
    let at = known_base + a.k * mark_count in
    filled_at (λ (y : ℕ). at + a.from + y) (λ (y : ℕ). known_place a.k (a.from + y)) (λ (y : ℕ). omega arith)
    (filled_with a.w.now c.fill.new.self (at + a.from) (at + mark_count) 0 (mark_count - a.from) (omega (arith, c.requires)) (omega (arith, c.requires)) (c.fill.ensures.after (λ y e. e)))
