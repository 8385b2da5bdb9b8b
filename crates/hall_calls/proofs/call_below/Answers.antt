-- `call_below` tests the node without a call, where each line passes the step, or the one with a call, where no line moves.
use Prim.Native.Nat.{ℕ, ◌+◌, ◌<◌, ◌^◌}
use mathlib.Core.Path.{refl, sym, ap, subst, ◌∙◌}
use Rattle.std.specs.Prelude.{Some}
use native.Mathlib.Omega.{arith}
use Rattle.branch.specs.declared.Bound.TheVariants.{Sum}
use Rattle.branch.proofs.Bounds.{sum_inj}
use mathlib.Core.Bool.{Bool}
use mathlib.Core.List.{List}
use Rattle.hall_model.specs.Hall.{Hall}
use Rattle.hall_state.specs.declared.Ground.{Ground}
use Rattle.hall_state.specs.declared.Spot.{Spot}
use Rattle.hall_state.specs.Courses.{Arrays, Course}
use Rattle.hall_moves.specs.Asks.{Asking}
use Rattle.hall_moves.specs.Stays.{CallStays}
use Rattle.hall_moves.proofs.Found.{below_as, room}
use Rattle.hall_calls.proofs.Calls.{step_near, call_closed, call_open, none_due, none_closed, none_drop, none_open}
use Rattle.hall_calls.proofs.call_below.Goals as goal

-- ---- a call

-- the estimate is small, and so is what a call costs
small : {hall : Hall} {g : Ground} {a : Arrays} {p : Spot} {name : List Bool} {calls : ℕ} {cs : List Course} → Asking hall g a p name calls cs → (p.total + g.ats.call < 2 ^ 64) × (p.total + g.ats.lines < 2 ^ 64)
small {hall} {g} {a} {p} k = let r = room k p.total (omega arith) in (omega (arith, k.crewed.table.call_is, r, k.crewed.fits.fair), omega (arith, k.crewed.table.lines_are, r, k.crewed.fits.few))

pub overflow_add-total : goal.overflow_add-total
overflow_add-total c = let z = small c.requires.asking in omega (arith, z.0, z.1)

pub open-requires : goal.open-requires
open-requires c = λ x f. let z = small c.requires.asking in omega (arith, z.0, z.1, sum_inj (Sum 0) 0 x refl f)

pub returns-in_default-clause-below : goal.returns-in_default-clause-below
returns-in_default-clause-below c = λ k.
    below_as c.if-b.true refl (call_closed k.asking k.is (c.args.b.p.total + c.args.ground.now.ats.call) (ap (λ (x : ℕ). c.args.b.p.total + x) k.asking.crewed.table.call_is) (sym c.«open».ensures ∙ c.in_default.is))

pub returns-then-b-clause-below : goal.returns-then-b-clause-below
returns-then-b-clause-below c = λ k.
    below_as c.if-b.true (ap Some c.lines_from.ensures) (call_open k.asking k.is (c.args.b.p.total + c.args.ground.now.ats.call) (ap (λ (x : ℕ). c.args.b.p.total + x) k.asking.crewed.table.call_is) (sym c.«open».ensures ∙ c.in-Sum.is))

-- ---- no call

pub returns-in_err-total-clause-below : goal.returns-in_err-total-clause-below
returns-in_err-total-clause-below c = λ k.
    let r = (c.no_call.ensures k).none c.in_err-total.was in
    below_as c.if-b.false c.from_residual.ensures (none_closed k.asking k.is r.0 r.1 r.2)

pub open-requires-2 : goal.open-requires-2
open-requires-2 c = λ x f.
    let k = c.requires in
    let r = (c.no_call.ensures k).some c.in_ok-total.total c.in_ok-total.was in
    omega (arith, sum_inj (Sum 0) 0 x refl f, (none_due k.asking k.is r).fits 0 refl)

pub returns-in_default-open-clause-below : goal.returns-in_default-open-clause-below
returns-in_default-open-clause-below c = λ k.
    let r = (c.no_call.ensures k).some c.in_ok-total.total c.in_ok-total.was in
    below_as c.if-b.false refl (none_drop k.asking k.is r (sym c.open-2.ensures ∙ c.in_default-open.is))

pub next_step-requires : goal.next_step-requires
next_step-requires c = step_near c.requires.asking c.requires.is

pub returns-clause-below : goal.returns-clause-below
returns-clause-below c = λ k.
    let r = (c.no_call.ensures k).some c.in_ok-total.total c.in_ok-total.was in
    below_as c.if-b.false (ap Some c.next_step.ensures) (none_open k.asking k.is r (sym c.open-2.ensures ∙ c.in-Sum-open.is))

-- ---- what is not written

pub returns-in_default-clause-stays : goal.returns-in_default-clause-stays
returns-in_default-clause-stays c = subst (λ (y : Bool). CallStays y c.args.rows.now c.args.rows.now) (sym c.if-b.true) refl

pub returns-then-b-clause-stays : goal.returns-then-b-clause-stays
returns-then-b-clause-stays c = subst (λ (y : Bool). CallStays y c.args.rows.now c.args.rows.now) (sym c.if-b.true) refl

pub returns-in_err-total-clause-stays : goal.returns-in_err-total-clause-stays
returns-in_err-total-clause-stays c = subst (λ (y : Bool). CallStays y c.args.rows.now c.no_call.new.rows) (sym c.if-b.false) ((c.no_call.ensures c.requires).none c.in_err-total.was).1

pub returns-in_default-open-clause-stays : goal.returns-in_default-open-clause-stays
returns-in_default-open-clause-stays c = subst (λ (y : Bool). CallStays y c.args.rows.now c.no_call.new.rows) (sym c.if-b.false) ((c.no_call.ensures c.requires).some c.in_ok-total.total c.in_ok-total.was).aside

pub returns-clause-stays : goal.returns-clause-stays
returns-clause-stays c = subst (λ (y : Bool). CallStays y c.args.rows.now c.no_call.new.rows) (sym c.if-b.false) ((c.no_call.ensures c.requires).some c.in_ok-total.total c.in_ok-total.was).aside
