-- `line_passes` takes the line's no where it is open at the step, and leaves it where it is not.
use Prim.Native.Nat.{◌+◌, ◌-◌}
use mathlib.Core.Path.{◌≡◌, sym, subst, ◌∙◌}
use mathlib.Core.Bool.{true}
use Rattle.std.proofs.lemmas.Option.{none-some, same_Some}
use native.Mathlib.Omega.{arith}
use Rattle.hall_steps.specs.Steps.{open_in}
use Rattle.hall_state.specs.Courses.{course_in}
use Rattle.hall_calls.specs.Calls.{Passing}
use Rattle.hall_calls.proofs.Passes.{pass_room, pass_shut, pass_opening, pass_near, pass_within, pass_kept, pass_aside, pass_none, pass_some}
use Rattle.hall_calls.proofs.line_passes.Goals as goal
use Rattle.hall_calls.proofs.line_passes.Goals.{Then-is_open}

-- the line is open
opened : (c : Then-is_open) → open_in c.args.ground.now.ats.before c.args.p.step c.args.d ≡ true
opened c = sym c.is_open.ensures ∙ c.if-is_open.true

pub own_sums-requires : goal.own_sums-requires
own_sums-requires c =
    let i = c.requires.1.1 in
    let k = i.0 in
    let op = opened (goal.at.own_sums-requires c).Then-is_open in
    let is = c.openings_before-at.ensures in
    (omega (arith, pass_near k.asking k.is i.1 i.2 op is), omega (arith, pass_within k.asking k.is i.1 i.2 op is, pass_room k.asking k.is i.1 i.2 c.args.total (omega arith)))

pub overflow_sub-test : goal.overflow_sub-test
overflow_sub-test c = let i = c.requires.1.1 in omega (arith, c.own_sums.ensures, pass_within i.0.asking i.0.is i.1 i.2 (opened (goal.at.overflow_sub-test c).Then-is_open) c.openings_before-at.ensures)

pub invariant_of-test : goal.invariant_of-test
invariant_of-test c = let i = c.requires.1.1 in record { room = pass_room i.0.asking i.0.is i.1 i.2 (c.args.total - c.own_sums.result) (omega arith) }

pub line_no-requires : goal.line_no-requires
line_no-requires c =
    let i = c.requires.1.1 in
    let k = i.0 in
    let own = course_in k.cs c.args.d in
    let op = opened (goal.at.line_no-requires c).Then-is_open in
    (own.sheet, (own.blocks, (own.paid, pass_opening k.asking k.is i.1 i.2 op c.openings_before-at.ensures)))

pub returns-then-is_open : goal.returns-then-is_open
returns-then-is_open c =
    let op = opened (goal.at.returns-then-is_open c).Then-is_open in
    let is = c.openings_before-at.ensures in
    let o₁ = c.line_no.new.own in
    let rest = c.args.total - c.own_sums.result in
    λ a k less r.
    let own = course_in k.cs c.args.d in
    let most = pass_within k.asking k.is r less op is in
    let found = c.line_no.ensures own.sheet own.blocks own.paid (pass_opening k.asking k.is r less op is) in
    record {
      none = λ f. (
        pass_kept k.asking k.is r less op is c.told-rows c.requires.0 rest c.line_no.result (omega (arith, c.own_sums.ensures, most)) o₁ found,
        pass_aside k.asking k.is r less op is c.told-rows c.requires.0 rest c.line_no.result (omega (arith, c.own_sums.ensures, most)) o₁ found,
        pass_none k.asking k.is r less op is c.told-rows c.requires.0 rest c.line_no.result (omega (arith, c.own_sums.ensures, most)) o₁ found f,
      );
      some = λ z f. pass_some k.asking k.is r less op is c.told-rows c.requires.0 rest c.line_no.result (omega (arith, c.own_sums.ensures, most)) o₁ found z f;
    }

pub returns : goal.returns
returns c = λ a k less r. record {
  none = λ f. absurd (none-some c.args.total (sym f));
  some = λ z f. subst (Passing c.args.ground.now a c.args.rows.now c.args.p.step k.calls k.cs (c.args.d + 1)) (same_Some c.args.total z f) (pass_shut k.asking k.is r less (sym c.is_open.ensures ∙ c.if-is_open.false));
}
