-- `line_below` takes the line's no or its stop, over the line's rows.
use Prim.Native.Nat.{ℕ, ◌+◌, ◌-◌}
use mathlib.Core.Path.{sym, ap, subst, ◌∙◌}
use Rattle.std.specs.Prelude.{List, Some}
use native.Mathlib.Omega.{arith}
use lib.ListN.{set}
use mathlib.Core.Bool.{Bool, true, false}
use Rattle.hall_lines.specs.declared.Level.{Level}
use Rattle.hall_lines.specs.declared.LineRows.{LineRows}
use Rattle.hall_lines.specs.declared.Stop.{Stop}
use Rattle.hall_lines.specs.Lines.{looks, Opening, StopFound, first_stop_lem}
use Rattle.hall_state.specs.declared.Question.TheVariants.{LineStop}
use Rattle.hall_state.specs.Courses.{tables_at, rows_at, course_in}
use Rattle.hall_state.specs.Spots.{line_spot, stop_spot}
use Rattle.hall_state.specs.Moves.{Below}
use Rattle.hall_moves.specs.Asks.{AskedAt}
use Rattle.hall_moves.specs.Stays.{LineStays}
use Rattle.hall_moves.proofs.Found.{at_same, spots, below_as, room, line_four, line_opening, own_most, level_near, no_below, yes_below}
use Rattle.hall_moves.proofs.Stays.{written}
use Rattle.hall_moves.proofs.line_below.Goals as goal
use Rattle.hall_moves.proofs.line_below.Goals.{After-openings_before-at, After-line_stop, After-line_no}

-- the line's own opening, at the level that is read
opening : (c : After-openings_before-at) (k : AskedAt LineStop c.args.ground.now c.args.rows.now c.args.b.p) → let a = c.args in let own = course_in k.cs a.b.p.line in
    Opening own.sheet own.blocks (tables_at a.ground.now a.b.p.line) (rows_at a.rows.now a.b.p.line) c.openings_before-at.result own.paid
opening c k = line_opening k.asking k.is c.openings_before-at.ensures

pub own_sums-requires : goal.own_sums-requires
own_sums-requires c =
    let k = c.requires in
    let is = c.openings_before-at.ensures in
    (omega (arith, level_near k.asking k.is is), omega (arith, own_most k.asking k.is is, room k.asking c.args.b.p.total (omega arith)))

pub invariant_of-test : goal.invariant_of-test
invariant_of-test c = record { room = room c.requires.asking (c.args.b.p.total - c.own_sums.result) (omega arith) }

pub invariant_of-test-2 : goal.invariant_of-test-2
invariant_of-test-2 c = record { room = room c.requires.asking (c.args.b.p.total - c.own_sums.result) (omega arith) }

pub line_stop-requires : goal.line_stop-requires
line_stop-requires c =
    let k = c.requires in
    let own = course_in k.cs c.args.b.p.line in
    ((rows_at c.args.rows.now c.args.b.p.line).w, (own.sheet, (own.blocks, (own.paid, opening (goal.at.line_stop-requires c).After-openings_before-at k))))

pub line_no-requires : goal.line_no-requires
line_no-requires c =
    let k = c.requires in
    let own = course_in k.cs c.args.b.p.line in
    (own.sheet, (own.blocks, (own.paid, opening (goal.at.line_no-requires c).After-openings_before-at k)))

pub first_stop-stop-requires : goal.first_stop-stop-requires
first_stop-stop-requires c = level_near c.requires.asking c.requires.is c.openings_before-at.ensures

-- what the line's stop and its no are, below the hall's node
stops : (c : After-line_stop) → let a = c.args in let p = a.b.p in (k : AskedAt LineStop a.ground.now a.rows.now p)
    → Below k.hall true a.ground.now a.rows.now (set a.rows.now p.line c.line_stop.new.own) p (spots (λ (z : ℕ). stop_spot p (first_stop_lem (tables_at a.ground.now p.line).u (rows_at a.rows.now p.line).n c.openings_before-at.result) z) c.line_stop.result) k.name k.cs a.b.limit a.b.s
stops c k =
    let a = c.args in
    let p = a.b.p in
    let is = c.openings_before-at.ensures in
    let own = course_in k.cs p.line in
    let rest = p.total - c.own_sums.result in
    let o = rows_at a.rows.now p.line in
    let found = c.line_stop.ensures.found o.w own.sheet own.blocks own.paid (line_opening k.asking k.is is) in
    yes_below k.asking k.is is c.told-rows a.b.limit rest a.b.s (omega (arith, c.own_sums.ensures, own_most k.asking k.is is)) c.line_stop.new.own
    (subst (λ (w : List ℕ). StopFound own.sheet own.blocks (tables_at a.ground.now p.line) o (looks c.line_stop.new.own w) c.openings_before-at.result own.paid a.b.limit rest a.b.s c.line_stop.result) (sym c.line_stop.ensures.rows) found)

pub returns-in_err-total-clause-below : goal.returns-in_err-total-clause-below
returns-in_err-total-clause-below c =
    let w = (goal.at.returns-in_err-total-clause-below c).After-line_stop in
    λ k. below_as c.if-b.true (c.from_residual.ensures ∙ sym (ap (spots _) c.in_err-total.was)) (stops w k)

pub returns-then-b-clause-below : goal.returns-then-b-clause-below
returns-then-b-clause-below c =
    let w = (goal.at.returns-then-b-clause-below c).After-line_stop in
    let a = c.args in
    let p = a.b.p in
    λ k.
    let own = course_in k.cs p.line in
    let found = c.line_stop.ensures.found (rows_at a.rows.now p.line).w own.sheet own.blocks own.paid (line_opening k.asking k.is c.openings_before-at.ensures) in
    let u = (tables_at a.ground.now p.line).u in
    let at = c.openings_before-at.result in
    let stop = c.first_stop-stop.ensures ∙ ap (λ (o : LineRows). first_stop_lem u o.n at) (at_same a.rows.now p.line c.line_stop.new.own c.told-rows (line_four k.asking k.is)) ∙ ap (λ (n : List Level). first_stop_lem u n at) found.levels in
    below_as c.if-b.true (ap Some (c.stopping.ensures ∙ ap (λ (x : Stop). stop_spot p x c.in_ok-total.total) stop) ∙ sym (ap (spots _) c.in_ok-total.was)) (stops w k)

noes : (c : After-line_no) → let a = c.args in let p = a.b.p in (k : AskedAt LineStop a.ground.now a.rows.now p)
    → Below k.hall false a.ground.now a.rows.now (set a.rows.now p.line c.line_no.new.own) p (spots (λ (z : ℕ). line_spot p (p.line + 1) z) c.line_no.result) k.name k.cs a.b.limit a.b.s
noes c k =
    let a = c.args in
    let p = a.b.p in
    let is = c.openings_before-at.ensures in
    let own = course_in k.cs p.line in
    no_below k.asking k.is is c.told-rows a.b.limit (p.total - c.own_sums.result) a.b.s (omega (arith, c.own_sums.ensures, own_most k.asking k.is is)) c.line_no.new.own (c.line_no.ensures own.sheet own.blocks own.paid (line_opening k.asking k.is is))

pub returns-in_err-total-2-clause-below : goal.returns-in_err-total-2-clause-below
returns-in_err-total-2-clause-below c =
    let w = (goal.at.returns-in_err-total-2-clause-below c).After-line_no in
    λ k. below_as c.if-b.false (c.from_residual-in_err-total-2.ensures ∙ sym (ap (spots _) c.in_err-total-2.was)) (noes w k)

pub returns-clause-below : goal.returns-clause-below
returns-clause-below c =
    let w = (goal.at.returns-clause-below c).After-line_no in
    let p = c.args.b.p in
    λ k. below_as c.if-b.false (ap Some c.lines_from.ensures ∙ sym (ap (spots (λ (z : ℕ). line_spot p (p.line + 1) z)) c.in_ok-total-2.was)) (noes w k)

-- what the stop and the no don't write stays
stop_stays : (c : After-line_stop) → let a = c.args in (k : AskedAt LineStop a.ground.now a.rows.now a.b.p) → LineStays true a.rows.now (set a.rows.now a.b.p.line c.line_stop.new.own)
stop_stays c k =
    let a = c.args in
    let d = a.b.p.line in
    let own = course_in k.cs d in
    let found = c.line_stop.ensures.found (rows_at a.rows.now d).w own.sheet own.blocks own.paid (line_opening k.asking k.is c.openings_before-at.ensures) in
    let less = line_four k.asking k.is in
    λ e. (written (λ (o : LineRows). o.w) a.rows.now d c.line_stop.new.own c.told-rows less c.line_stop.ensures.rows e, written (λ (o : LineRows). o.n) a.rows.now d c.line_stop.new.own c.told-rows less found.levels e)

no_stays : (c : After-line_no) → let a = c.args in (k : AskedAt LineStop a.ground.now a.rows.now a.b.p) → LineStays false a.rows.now (set a.rows.now a.b.p.line c.line_no.new.own)
no_stays c k =
    let a = c.args in
    let d = a.b.p.line in
    let own = course_in k.cs d in
    let found = c.line_no.ensures own.sheet own.blocks own.paid (line_opening k.asking k.is c.openings_before-at.ensures) in
    written (λ (o : LineRows). o.v) a.rows.now d c.line_no.new.own c.told-rows (line_four k.asking k.is) found.aside

pub returns-in_err-total-clause-stays : goal.returns-in_err-total-clause-stays
returns-in_err-total-clause-stays c =
    let w = (goal.at.returns-in_err-total-clause-stays c).After-line_stop in
    subst (λ (y : Bool). LineStays y c.args.rows.now (set c.args.rows.now c.args.b.p.line w.line_stop.new.own)) (sym c.if-b.true) (stop_stays w c.requires)

pub returns-then-b-clause-stays : goal.returns-then-b-clause-stays
returns-then-b-clause-stays c =
    let w = (goal.at.returns-then-b-clause-stays c).After-line_stop in
    subst (λ (y : Bool). LineStays y c.args.rows.now (set c.args.rows.now c.args.b.p.line w.line_stop.new.own)) (sym c.if-b.true) (stop_stays w c.requires)

pub returns-in_err-total-2-clause-stays : goal.returns-in_err-total-2-clause-stays
returns-in_err-total-2-clause-stays c =
    let w = (goal.at.returns-in_err-total-2-clause-stays c).After-line_no in
    subst (λ (y : Bool). LineStays y c.args.rows.now (set c.args.rows.now c.args.b.p.line w.line_no.new.own)) (sym c.if-b.false) (no_stays w c.requires)

pub returns-clause-stays : goal.returns-clause-stays
returns-clause-stays c =
    let w = (goal.at.returns-clause-stays c).After-line_no in
    subst (λ (y : Bool). LineStays y c.args.rows.now (set c.args.rows.now c.args.b.p.line w.line_no.new.own)) (sym c.if-b.false) (no_stays w c.requires)
