-- `places_of`: the places before j are found.
use Prim.Native.Nat.{◌<◌}
use mathlib.Core.Path.{◌≡◌, refl, ◌∙◌}
use native.Mathlib.Omega.{arith}
use lib.ListN.{length, length-set}
use Rattle.model.specs.Limits.{most_parts}
use Rattle.holding_parts.proofs.Places.{found_skip, found_more, found_all, below_set}
use Rattle.holding_parts.proofs.places_of.Goals as goal
use Rattle.holding_parts.proofs.places_of.Goals.{then-marked, else-marked}

pub loop-j-preserved : goal.loop-j-preserved
loop-j-preserved c = let l = c.loop-j in
    let room : l.count < length l.places = omega (arith, l.invariant) in
    elim c.if-marked.branch [
      | then-marked w ↦ rw (w.places-is, w.count-is) (
        omega arith,
        length-set l.places l.count l.j ∙ l.invariant.1,
        found_more c.args.marks l.j l.count l.places (omega (arith, c.well_formed)) l.invariant.2 room w.if-marked.true,
        below_set most_parts l.count l.j l.places room c.loop-j-test.true l.invariant.3,
      )
      | else-marked w ↦ rw (w.places-is, w.count-is) (omega arith, l.invariant.1, found_skip c.args.marks l.j l.count l.places (omega (arith, c.well_formed)) l.invariant.2 w.if-marked.false, l.invariant.3)
    ]

pub returns : goal.returns
returns c = let l = c.loop-j in
    let z : l.j ≡ length c.args.marks = omega (arith, c.well_formed) in
    (refl, found_all c.args.marks l.j l.count l.places z l.invariant.2, record { size = l.invariant.1; few = omega arith; inside = l.invariant.3 })
