-- `class_like` looks at one class after the other.
use Rattle.std.proofs.Common.{ℕ, Bool, true, false, ◌≡◌, take, arith, rules, tests}
use Rattle.std.proofs.lemmas.Iterator.{YieldsList-from_slice, IsFirst-from_position}
use Rattle.std.proofs.lemmas.Iterator.Adapters.{serves_from_places}
use Rattle.held_places.specs.Arrays.{needs_at}
use Rattle.part_classes.specs.Grouped.{same_needs_lem}
use Rattle.part_classes.proofs.Groups.{first_in, lead_below}
use Rattle.part_classes.proofs.class_like.Goals as goal

pub position-requires-clause-callable : goal.position-requires-clause-callable
position-requires-clause-callable c = let k = c.args.classes.now in
    serves_from_places (YieldsList-from_slice (take k.count k.leads) cc) (λ x q r. search (rules, tests)) (λ x i l e _ _ _ _ _ _ _. (lead_below k i x.now l e, c.requires))

pub returns : goal.returns
returns c = let n = c.args.needs.now in
    let k = c.args.classes.now in
    let f : ℕ → Bool = λ x. same_needs_lem n.marks.now n.holding x c.args.q in
    let P : ℕ → Type 0 = λ x. needs_at n.holding n.marks.now x ≡ needs_at n.holding n.marks.now c.args.q in
    first_in f P k.leads k.count (omega (arith, k.led.room, k.led.most)) c.position.result
    (IsFirst-from_position _ _ c.position.result (λ x. (f x ≡ true) × P x) (λ x. f x ≡ false) c.position.ensures.ran (YieldsList-from_slice (take k.count k.leads) cc) (λ x q k. search (rules, tests)) (λ x q k. search (rules, tests)))
