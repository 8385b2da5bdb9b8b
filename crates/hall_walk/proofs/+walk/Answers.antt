-- `walk` passes its node by or walks on from it, by what is asked there: by recursion on what is left to decide.
use Prim.Native.Nat.{ℕ}
use mathlib.Core.Path.{refl, sym, ap, subst, ◌∙◌}
use native.Mathlib.Omega.{arith}
use Rattle.std.specs.Prelude.{Some}
use Rattle.std.proofs.lemmas.Option.{none-some}
use Rattle.hall_state.specs.Spots.{Asked}
use Rattle.hall_state.specs.Moves.{Arrived}
use Rattle.hall_turns.specs.Turns.{KeptLines}
use Rattle.hall_walk.specs.Walk.{search_of, ReachedAt}
use Rattle.hall_walk.proofs.Passed.{full_passed, asking, no_reached, asking₁, stands_at, asked_at, yes_reached, both_passed, below_falls, close_asks, as_call, as_line, as_removal, walks_as, no_line}
use Rattle.hall_walk.proofs.+walk.Goals as goal
use Rattle.hall_walk.proofs.+walk.Goals.{both-After-arrive-p, both-Else-p-ground}

-- ---- at a spot

-- the question arrived at
arrived : (t : ℕ) (c : both-After-arrive-p t) (k : ReachedAt c.args.ground.now c.args.rows.now (Some c.args.q) c.args.best.now c.args.limit (search_of c.args.t))
    → Arrived k.hall c.args.ground.now c.args.rows.now c.arrive-p.new.rows c.args.q c.arrive-p.result k.name k.calls k.cs
arrived t c k = c.arrive-p.ensures (stands_at k.reaches refl)

pub both-close-requires : goal.both-close-requires
both-close-requires t c =
    let r = c.requires.0 in
    let k = r.reaches.crewed in
    (omega (arith, k.table.lines_are, k.fits.few), omega (arith, k.table.steps_are, k.table.few), close_asks k (arrived t (goal.at.both-close-requires t c).After-arrive-p r).stood)

pub both-returns-then-p-ground : goal.both-returns-then-p-ground
both-returns-then-p-ground t c =
    let d = (goal.at.both-returns-then-p-ground t c).After-arrive-p in
    let a = c.args in
    λ k.
    let h = k.reaches in
    let kl = subst (KeptLines c.arrive-p.new.rows c.close.new.rows c.close.new.best a.ground.now.ats) h.crewed.table.lines_are c.close.ensures in
    record {
      count = kl.count ∙ sym c.told-best;
      passed = λ e. absurd (none-some a.q (sym e));
      walked = λ _ _. full_passed h refl (arrived t d k) (c.if-p-ground.true ∙ h.crewed.table.steps_are) kl;
    }

-- something is asked there
asked : (t : ℕ) (c : both-Else-p-ground t) (k : ReachedAt c.args.ground.now c.args.rows.now (Some c.args.q) c.args.best.now c.args.limit (search_of c.args.t)) → Asked k.hall c.args.ground.now.ats c.arrive-p.result
asked t c k = (c.arrive-p.ensures (stands_at k.reaches refl)).asked (λ _ e. c.if-p-ground.false (e ∙ sym k.reaches.crewed.table.steps_are))

pub both-below-none-requires : goal.both-below-none-requires
both-below-none-requires t c =
    let r = c.requires.0 in
    let ar = arrived t (goal.at.both-below-none-requires t c).After-arrive-p r in
    asked_at (asking r.reaches refl ar (asked t (goal.at.both-below-none-requires t c).Else-p-ground r) refl)

pub both-walk-a-requires : goal.both-walk-a-requires
both-walk-a-requires t c =
    let r = c.requires.0 in
    let h = r.reaches in
    let ar = arrived t (goal.at.both-walk-a-requires t c).After-arrive-p r in
    let ask = asked t (goal.at.both-walk-a-requires t c).Else-p-ground r in
    let b₁ = c.below-none.ensures (asked_at (asking h refl ar ask refl)) in
    let f = below_falls b₁ ar.measure in
    (omega (arith, c.decreases, f), (no_reached h refl ar ask refl b₁, c.requires.1))

pub both-below-some-requires : goal.both-below-some-requires
both-below-some-requires t c =
    let r = c.requires.0 in
    let h = r.reaches in
    let ar = arrived t (goal.at.both-below-some-requires t c).After-arrive-p r in
    let ask = asked t (goal.at.both-below-some-requires t c).Else-p-ground r in
    let b₁ = c.below-none.ensures (asked_at (asking h refl ar ask refl)) in
    let w₁ = c.walk-a.ensures (no_reached h refl ar ask refl b₁) in
    asked_at (asking₁ h refl ar ask refl b₁ w₁)

pub both-walk-requires : goal.both-walk-requires
both-walk-requires t c =
    let r = c.requires.0 in
    let h = r.reaches in
    let ar = arrived t (goal.at.both-walk-requires t c).After-arrive-p r in
    let ask = asked t (goal.at.both-walk-requires t c).Else-p-ground r in
    let b₁ = c.below-none.ensures (asked_at (asking h refl ar ask refl)) in
    let w₁ = c.walk-a.ensures (no_reached h refl ar ask refl b₁) in
    let b₂ = c.below-some.ensures (asked_at (asking₁ h refl ar ask refl b₁ w₁)) in
    let f = below_falls b₂ ar.measure in
    (omega (arith, c.decreases, f), (yes_reached h refl ar ask refl b₁ w₁ b₂, c.requires.1))

pub both-returns : goal.both-returns
both-returns t c =
    let d = (goal.at.both-returns t c).After-arrive-p in
    let e = (goal.at.both-returns t c).Else-p-ground in
    λ k.
    let h = k.reaches in
    let ar = arrived t d k in
    let ask = asked t e k in
    let b₁ = c.below-none.ensures (asked_at (asking h refl ar ask refl)) in
    let w₁ = c.walk-a.ensures (no_reached h refl ar ask refl b₁) in
    let b₂ = c.below-some.ensures (asked_at (asking₁ h refl ar ask refl b₁ w₁)) in
    let w₂ = c.walk.ensures (yes_reached h refl ar ask refl b₁ w₁ b₂) in
    record { count = w₂.count ∙ w₁.count; passed = λ f. absurd (none-some c.args.q (sym f)); walked = λ _ _. both_passed h refl ar ask refl b₁ w₁ b₂ w₂ }

-- ---- by what is asked

pub walk-returns-in-CrewCall : goal.walk-returns-in-CrewCall
walk-returns-in-CrewCall t c = λ k. walks_as (c.in-Some.is ∙ ap Some (as_call c.in-Some.q c.in-CrewCall.is (no_line k c.in-Some.is c.in-CrewCall.is))) c.at_call.ensures k

pub walk-returns-in-LineStop : goal.walk-returns-in-LineStop
walk-returns-in-LineStop t c = walks_as (c.in-Some.is ∙ ap Some (as_line c.in-Some.q c.in-LineStop.is)) c.at_line.ensures

pub walk-returns-in-PartRemoval : goal.walk-returns-in-PartRemoval
walk-returns-in-PartRemoval t c = walks_as (c.in-Some.is ∙ ap Some (as_removal c.in-Some.q c.in-PartRemoval.stop c.in-PartRemoval.is)) c.at_removal.ensures
