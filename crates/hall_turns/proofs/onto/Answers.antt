-- `onto` goes on to the next line that is open, or to the next step.
use Prim.Native.Nat.{ℕ, ◌-◌}
use mathlib.Core.Path.{◌≡◌, sym, ap, subst, ◌∙◌}
use Rattle.std.specs.Prelude.{Option}
use lib.ListN.{length}
use Rattle.hall_model.specs.Hall.{Hall}
use Rattle.hall_steps.specs.Steps.{next_open_lem, place_below}
use Rattle.hall_steps.proofs.Asked.{place_found, place_gone}
use Rattle.hall_state.specs.declared.Spot.{Spot}
use Rattle.hall_state.specs.Spots.{line_spot}
use Rattle.hall_state.specs.Moves.{Crewed, Arrived}
use Rattle.hall_turns.specs.Turns.{ground_of}
use Rattle.hall_turns.proofs.NextLine.{onto_line, onto_step}
use Rattle.hall_turns.proofs.onto.Goals as goal
use Rattle.hall_turns.proofs.onto.Goals.{After-next_open}

-- where it stops, by the hall's lines
next_is : (c : After-next_open) {hall : Hall} → Crewed hall c.args.ats.now → {r : Option ℕ} → c.next_open.result ≡ r → place_below (length hall.jobs) (next_open_lem c.args.ats.now.before c.args.p.step c.args.line (length hall.jobs - c.args.line)) ≡ r
next_is c k e = sym (c.next_open.ensures ∙ ap (λ (n : ℕ). place_below n (next_open_lem c.args.ats.now.before c.args.p.step c.args.line (n - c.args.line))) k.table.lines_are) ∙ e

pub returns-in-Some : goal.returns-in-Some
returns-in-Some c =
    let p = c.args.p in
    let w = (goal.at.returns-in-Some c).After-next_open in
    λ t a k.
    let d = next_open_lem c.args.ats.now.before p.step c.args.line (length k.hall.jobs - c.args.line) in
    let e = place_found (length k.hall.jobs) d c.in-Some.d (next_is w k.crewed c.in-Some.is) in
    subst (λ (q : Spot). Arrived k.hall (ground_of t c.args.ats.now) a a (line_spot p c.args.line p.total) q k.name k.calls k.cs) (ap (λ (j : ℕ). line_spot p j p.total) e.1 ∙ sym c.lines_from.ensures) (onto_line p c.args.line k.crewed k.stood e.0)

pub returns-in-None : goal.returns-in-None
returns-in-None c =
    let p = c.args.p in
    let w = (goal.at.returns-in-None c).After-next_open in
    λ t a k.
    let d = next_open_lem c.args.ats.now.before p.step c.args.line (length k.hall.jobs - c.args.line) in
    subst (λ (q : Spot). Arrived k.hall (ground_of t c.args.ats.now) a a (line_spot p c.args.line p.total) q k.name k.calls k.cs) (sym c.next_step.ensures) (onto_step p c.args.line k.crewed k.stood (place_gone (length k.hall.jobs) d (next_is w k.crewed c.in-None.is)))
