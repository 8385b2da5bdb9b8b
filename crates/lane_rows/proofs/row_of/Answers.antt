-- `row_of` is a triangle: half of a product.
use Prim.Native.Nat.{◌+◌}
use native.Mathlib.Omega.{arith}
use Rattle.lane_rows.specs.Layout.{mark_count}
use Rattle.lane_rows.proofs.Rising.{triangle_twice, row_inside}
use Rattle.lane_rows.proofs.row_of.Goals as goal

pub overflow_mul-result : goal.overflow_mul-result
overflow_mul-result c = omega (arith, triangle_twice c.args.j, row_inside c.args.j 0 (mark_count + 1) (omega arith) (omega arith))

pub returns : goal.returns
returns c = let j = c.args.j in
    let h = row_inside j 0 (mark_count + 1) (omega arith) (omega arith) in
    record { rows = omega (arith, triangle_twice j); few = omega (arith, triangle_twice j, h) }
