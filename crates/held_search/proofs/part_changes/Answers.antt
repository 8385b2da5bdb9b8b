-- `part_changes` is the tie rule's choice of a part at its places.
use Prim.Native.Nat.{◌-◌}
use mathlib.Core.Path.{◌∙◌}
use mathlib.Core.Bool.{false}
use mathlib.Core.List.{◌++◌}
use native.Mathlib.Omega.{arith}
use lib.ListN.{length, get_or, replicate}
use lib.IntN.{pos, ◌-ℤ◌}
use Rattle.model.specs.LowerBound.{choice_of}
use Rattle.base.proofs.Diff.{back}
use Rattle.held_places.proofs.Parts.{prices_are, places_seen}
use Rattle.held_search.proofs.part_changes.Goals as goal

pub returns : goal.returns
returns c = let p = c.args.parts.now in
    let q = c.args.q in
    let ss = p.positions.now in
    let o = c.offered.ensures in
    let at = c.part_places-at in
    let seen = places_seen ss _ _ p.needs.holding p.needs.marks.now q c.args.name.now at.result (prices_are p.prices.now (length ss) q) at.ensures in
    rw (o.ends, o.places, o.lived.0, o.lived.1, o.priced, o.allowed) at c.choice.ensures
    ∙ (λ i. choice_of (pos (get_or p.lives.now q 0)) (back p.end (omega (arith, p.lanes.timed.late)) i) (pos (get_or p.lefts.now q 0) -ℤ pos (get_or p.lives.now q 0)) (seen i) ++ replicate (64 - length ss) false)
