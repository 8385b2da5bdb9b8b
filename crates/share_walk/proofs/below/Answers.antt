-- `below` is the node below, at a stop or at an opening.
use mathlib.Core.Path.{◌≡◌}
use native.Mathlib.Omega.{arith}
use Rattle.model.specs.LowerBound.{inner}
use Rattle.share_walk.proofs.below.Goals as goal

pub below_stop-requires : goal.below_stop-requires
below_stop-requires c = let e = c.requires in
    (e.0, e.1, e.2, e.3, e.4, omega (arith, c.if-p-number.true, c.number.ensures.value, e.4.numbers.shared.holds))

pub returns-then-p-number : goal.returns-then-p-number
returns-then-p-number c = λ job shares course s ab m. c.below_stop.ensures job shares course s ab (omega (arith, c.if-p-number.true, c.number.ensures.value, ab.numbers.shared.holds))

pub below_opening-requires : goal.below_opening-requires
below_opening-requires c = let e = c.requires in
    let o : c.args.p.next ≡ inner e.0 = omega (arith, c.if-p-number.false, c.number.ensures.value, e.4.numbers.shared.holds, e.4.numbers.next) in
    (e.0, e.1, e.2, e.3, c.args.row.now, e.4, o, e.5 o)

pub returns : goal.returns
returns c = λ job shares course s ab m.
    let a = c.args in
    let o : a.p.next ≡ inner job = omega (arith, c.if-p-number.false, c.number.ensures.value, ab.numbers.shared.holds, ab.numbers.next) in
    c.below_opening.ensures job shares course s a.row.now ab o (m o)
