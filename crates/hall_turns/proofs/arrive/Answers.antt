-- `arrive` stays where a call or a removal is asked, settles a stop whose removals are decided, and goes on to the next line that is open.
use mathlib.Core.Path.{◌≡◌, sym, subst, ◌∙◌}
use native.Mathlib.Omega.{arith}
use Rattle.hall_state.specs.declared.Spot.{Spot}
use Rattle.hall_state.specs.Spots.{inner_at}
use Rattle.hall_state.specs.Moves.{Arrived}
use Rattle.hall_turns.specs.Turns.{StoodAt}
use Rattle.hall_state.proofs.Stops.{stop_given, stop_holds}
use Rattle.hall_turns.proofs.Stays.{stays_removal, as_lines, lines_at}
use Rattle.hall_turns.proofs.arrive.Goals as goal
use Rattle.hall_turns.proofs.arrive.Goals.{After-number}

-- as many parts are read as the line has holding
holds_as : (c : After-number) (k : StoodAt c.args.ground.now c.args.rows.now c.args.p) → c.number.result ≡ inner_at k.hall.jobs c.args.p.line
holds_as c k = let er = c.in-PartRemoval.is in c.number.ensures.value ∙ (stop_given k.crewed k.stood er).holders.holds ∙ stop_holds k.crewed k.stood er

pub onto-requires : goal.onto-requires
onto-requires c = (c.args.ground.now.lines, (c.args.rows.now, lines_at c.in-LineStop.is c.requires))

pub returns-in-LineStop : goal.returns-in-LineStop
returns-in-LineStop c = let a = c.args in
    λ k. subst (λ (q : Spot). Arrived k.hall a.ground.now a.rows.now a.rows.now q c.onto.result k.name k.calls k.cs) (sym (as_lines a.p c.in-LineStop.is)) (c.onto.ensures a.ground.now.lines a.rows.now (lines_at c.in-LineStop.is k))

pub returns-then-stop-number : goal.returns-then-stop-number
returns-then-stop-number c = let n = (goal.at.returns-then-stop-number c).After-number in
    λ k. let z = holds_as n k in stays_removal k.stood c.in-PartRemoval.is (omega (arith, z))

pub settled-requires : goal.settled-requires
settled-requires c = let z = holds_as (goal.at.settled-requires c).After-number c.requires in ((c.requires, omega (arith, z)), c.in-PartRemoval.is)

pub returns-else-stop-number : goal.returns-else-stop-number
returns-else-stop-number c = let n = (goal.at.returns-else-stop-number c).After-number in
    λ k. let z = holds_as n k in c.settled.ensures k (omega (arith, z))
