-- `covers_behind`: the place at which the holders go on fits.
use native.Mathlib.Omega.{arith}
use Rattle.first_parts.proofs.covers_behind.Goals as goal

pub offset_bounds-covers-inside : goal.offset_bounds-covers-inside
offset_bounds-covers-inside c = omega (arith, c.inside_first-inside.ensures.few)
