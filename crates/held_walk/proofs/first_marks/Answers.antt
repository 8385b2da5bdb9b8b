-- `first_marks` writes the mark of one class after the other. The invariant: the first are written.
use Prim.Native.Nat.{ℕ, ◌+◌}
use native.Mathlib.Omega.{arith}
use lib.ListN.{get_or}
use Rattle.base.proofs.Filled.{filled_by}
use Rattle.lane_rows.proofs.Parts.{filled_at}
use Rattle.held_lanes.specs.Places.{offset, classes_place, last_place}
use Rattle.held_walk.proofs.first_marks.Goals as goal

pub returns : goal.returns
returns c = let many = get_or c.args.u.now classes_place 0 in
    let few = c.number-n.ensures.value in
    filled_at (λ (y : ℕ). 0 + y) (last_place 0) (λ y. omega arith)
    (filled_by c.args.v.now c.loop-c.mark-items 0 many c.number-n.result (offset 0) few (omega (arith, c.requires)) (omega (arith, few, c.requires)) (λ y h. c.loop-c.invariant y (omega (arith, h, few, c.requires))))
