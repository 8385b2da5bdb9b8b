-- `base_row` writes the row of the first life, and a memo that knows nothing of it.
use Prim.Native.Nat.{ℕ, ◌+◌}
use mathlib.Core.Path.{◌≡◌, refl, ap, ◌∙◌}
use native.Mathlib.Omega.{arith}
use borrow.Rule.Slice.PartMut.{put_mid}
use lib.ListN.{get_or, length-set}
use lib.Seq.{get_or-set_same, get_or-set_other}
use Rattle.base.specs.Filled.{FilledBy}
use Rattle.lane_rows.specs.Layout.{lane_count_lem, mark_base, known_place}
use Rattle.lane_rows.proofs.Parts.{filled_with, filled_at}
use Rattle.lane_rows.proofs.base_row.Goals as goal
use Rattle.lane_rows.proofs.base_row.Goals.{After-fill}

-- the lanes of the first row
zeros : (c : After-fill) → FilledBy (λ (q : ℕ). q) (λ (q : ℕ). 0) lane_count_lem c.args.w.now (put_mid 0 lane_count_lem c.args.w.now c.fill.new.self)
zeros c = filled_at (λ (q : ℕ). 0 + q) (λ (q : ℕ). q) (λ (q : ℕ). omega arith) (filled_with c.args.w.now c.fill.new.self 0 lane_count_lem 0 lane_count_lem refl (omega arith) (c.fill.ensures.after (λ y e. e)))

pub returns : goal.returns
returns c = let w = put_mid 0 lane_count_lem c.args.w.now c.fill.new.self in
    let d = zeros (goal.at.returns c).After-fill in
    let f = c.forget.ensures in
    let n = c.none_rows.ensures in
    record {
      size = omega (arith, n.size, f.size, length-set w mark_base 0, d.size);
      lanes = λ q h. n.rest q (omega arith) ∙ f.rest q (λ y g e. omega (arith, e)) ∙ get_or-set_other w mark_base q 0 0 (λ z. omega (arith, z)) ∙ d.done q h;
      mark = n.rest mark_base (omega arith) ∙ f.rest mark_base (λ y g e. omega (arith, e)) ∙ get_or-set_same w mark_base 0 0 (omega (arith, d.size));
      none = λ k q a b. n.none k q (omega arith) b;
      fresh = λ k a.
          let z : known_place 1 k ≡ known_place 1 (0 + k) = omega arith in
          n.rest (known_place 1 k) (omega arith) ∙ ap (λ (x : ℕ). get_or c.forget.new.w x 0) z ∙ f.done k (omega arith);
    }
