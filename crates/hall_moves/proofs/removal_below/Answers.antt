-- `removal_below` leaves the next holding part in its place or removes it, over the line's rows.
use Prim.Native.Nat.{◌+◌, ◌-◌}
use mathlib.Core.Path.{refl, sym, ap, subst, ◌∙◌}
use Rattle.std.specs.Prelude.{Some}
use native.Mathlib.Omega.{arith}
use lib.ListN.{set}
use mathlib.Core.Bool.{Bool, true, false}
use Rattle.hall_lines.specs.declared.Decision.{Decision}
use Rattle.hall_lines.specs.declared.LineRows.{LineRows}
use Rattle.hall_state.specs.declared.Question.TheVariants.{PartRemoval}
use Rattle.hall_state.specs.Courses.{tables_at, rows_at, course_in}
use Rattle.hall_state.specs.Spots.{stop_spot}
use Rattle.hall_state.specs.Moves.{Below}
use Rattle.hall_moves.specs.Asks.{AskedAt}
use Rattle.hall_moves.specs.Stays.{RemovalStays}
use Rattle.hall_moves.proofs.Found.{spots, below_as, room, stop_most, removing_at, removing_here, stays_below, out_below}
use Rattle.hall_state.proofs.Stops.{stop_four}
use Rattle.hall_moves.proofs.Stays.{written}
use Rattle.hall_moves.proofs.removal_below.Goals as goal
use Rattle.hall_moves.proofs.removal_below.Goals.{After-line_out, After-line_stays}

pub overflow_add-own : goal.overflow_add-own
overflow_add-own c = let k = c.requires in omega (arith, stop_most k.asking k.is, room k.asking c.args.b.p.total (omega arith))

pub invariant_of-test : goal.invariant_of-test
invariant_of-test c = record { room = room c.requires.asking (c.args.b.p.total - (c.args.stop.sums + c.args.stop.term)) (omega arith) }

pub invariant_of-test-2 : goal.invariant_of-test-2
invariant_of-test-2 c = record { room = room c.requires.asking (c.args.b.p.total - (c.args.stop.sums + c.args.stop.term)) (omega arith) }

pub line_out-requires : goal.line_out-requires
line_out-requires c =
    let k = c.requires in
    let own = course_in k.cs c.args.b.p.line in
    ((tables_at c.args.ground.now c.args.b.p.line).t, (own.sheet, (own.blocks, (rows_at c.args.rows.now c.args.b.p.line, (own.at, (own.paid, removing_here k.asking k.is))))))

pub line_stays-requires : goal.line_stays-requires
line_stays-requires c =
    let k = c.requires in
    let own = course_in k.cs c.args.b.p.line in
    (own.sheet, (own.blocks, (own.paid, removing_at k.asking k.is c.openings_before-at.ensures)))

-- what the line's functions find is below the hall's node
outs : (c : After-line_out) → let a = c.args in let p = a.b.p in (k : AskedAt (PartRemoval a.stop) a.ground.now a.rows.now p)
    → Below k.hall true a.ground.now a.rows.now a.rows.now p (spots (λ (q : Decision). stop_spot p q.stop q.total) c.line_out.result) k.name k.cs a.b.limit a.b.s
outs c k =
    let a = c.args in
    let p = a.b.p in
    let own = course_in k.cs p.line in
    let most = stop_most k.asking k.is in
    out_below k.asking k.is a.b.limit (p.total - (a.stop.sums + a.stop.term)) a.b.s (omega (arith, most)) (c.line_out.ensures (tables_at a.ground.now p.line).t own.sheet own.blocks (rows_at a.rows.now p.line) own.at own.paid (removing_here k.asking k.is))

stays : (c : After-line_stays) → let a = c.args in let p = a.b.p in (k : AskedAt (PartRemoval a.stop) a.ground.now a.rows.now p)
    → Below k.hall false a.ground.now a.rows.now (set a.rows.now p.line c.line_stays.new.own) p (spots (λ (q : Decision). stop_spot p q.stop q.total) c.line_stays.result) k.name k.cs a.b.limit a.b.s
stays c k =
    let a = c.args in
    let p = a.b.p in
    let is = c.openings_before-at.ensures in
    let own = course_in k.cs p.line in
    let most = stop_most k.asking k.is in
    stays_below k.asking k.is a.b.limit (p.total - (a.stop.sums + a.stop.term)) a.b.s (omega (arith, most)) c.told-rows is (c.line_stays.ensures own.sheet own.blocks own.paid (removing_at k.asking k.is is))

pub returns-in_err-r-clause-below : goal.returns-in_err-r-clause-below
returns-in_err-r-clause-below c =
    let w = (goal.at.returns-in_err-r-clause-below c).After-line_out in
    λ k. below_as c.if-b.true (c.from_residual.ensures ∙ sym (ap (spots _) c.in_err-r.was)) (outs w k)

pub returns-then-b-clause-below : goal.returns-then-b-clause-below
returns-then-b-clause-below c =
    let w = (goal.at.returns-then-b-clause-below c).After-line_out in
    λ k. below_as c.if-b.true (ap Some c.stopping.ensures ∙ sym (ap (spots _) c.in_ok-r.was)) (outs w k)

pub returns-in_err-r-2-clause-below : goal.returns-in_err-r-2-clause-below
returns-in_err-r-2-clause-below c =
    let w = (goal.at.returns-in_err-r-2-clause-below c).After-line_stays in
    λ k. below_as c.if-b.false (c.from_residual-in_err-r-2.ensures ∙ sym (ap (spots _) c.in_err-r-2.was)) (stays w k)

pub returns-clause-below : goal.returns-clause-below
returns-clause-below c =
    let w = (goal.at.returns-clause-below c).After-line_stays in
    λ k. below_as c.if-b.false (ap Some c.stopping-2.ensures ∙ sym (ap (spots _) c.in_ok-r-2.was)) (stays w k)

-- what is not written where the part stays in its place
no_stays : (c : After-line_stays) → let a = c.args in (k : AskedAt (PartRemoval a.stop) a.ground.now a.rows.now a.b.p) → RemovalStays false a.rows.now (set a.rows.now a.b.p.line c.line_stays.new.own)
no_stays c k =
    let a = c.args in
    let d = a.b.p.line in
    let own = course_in k.cs d in
    let found = c.line_stays.ensures own.sheet own.blocks own.paid (removing_at k.asking k.is c.openings_before-at.ensures) in
    let less = stop_four k.asking.crewed k.asking.stood k.is in
    λ e. (written (λ (o : LineRows). o.v) a.rows.now d c.line_stays.new.own c.told-rows less found.aside e, written (λ (o : LineRows). o.n) a.rows.now d c.line_stays.new.own c.told-rows less found.levels e)

pub returns-in_err-r-clause-stays : goal.returns-in_err-r-clause-stays
returns-in_err-r-clause-stays c = subst (λ (y : Bool). RemovalStays y c.args.rows.now c.args.rows.now) (sym c.if-b.true) refl

pub returns-then-b-clause-stays : goal.returns-then-b-clause-stays
returns-then-b-clause-stays c = subst (λ (y : Bool). RemovalStays y c.args.rows.now c.args.rows.now) (sym c.if-b.true) refl

pub returns-in_err-r-2-clause-stays : goal.returns-in_err-r-2-clause-stays
returns-in_err-r-2-clause-stays c =
    let w = (goal.at.returns-in_err-r-2-clause-stays c).After-line_stays in
    subst (λ (y : Bool). RemovalStays y c.args.rows.now (set c.args.rows.now c.args.b.p.line w.line_stays.new.own)) (sym c.if-b.false) (no_stays w c.requires)

pub returns-clause-stays : goal.returns-clause-stays
returns-clause-stays c =
    let w = (goal.at.returns-clause-stays c).After-line_stays in
    subst (λ (y : Bool). RemovalStays y c.args.rows.now (set c.args.rows.now c.args.b.p.line w.line_stays.new.own)) (sym c.if-b.false) (no_stays w c.requires)
