-- `line_out` tests the stop where the next holding part is removed.
use Prim.Native.Nat.{ℕ, ◌+◌}
use mathlib.Core.Path.{◌≡◌, sym, subst}
use Rattle.std.specs.Prelude.{Option}
use lib.ListN.{get_or}
use Rattle.branch.specs.declared.Bound.TheVariants.{Sum}
use Rattle.held_lanes.specs.Places.{removal_place}
use Rattle.hall_lines.specs.Lines.{tables_by, Answers, itself, OutFound}
use Rattle.hall_lines.proofs.Lines.{out_none, out_some}
use Rattle.hall_lines.proofs.line_out.Goals as goal
use Rattle.hall_lines.proofs.line_out.Goals.{After-opened}

-- what the test said
tested : (c : After-opened) (r : Option ℕ) → c.opened.result ≡ r → let a = c.args in Answers itself a.test.limit (a.test.rest + (get_or a.u.now (removal_place a.p.next) 0 + a.p.term)) (Sum a.p.sums) a.test.s r
tested c r e = let a = c.args in
    subst (Answers itself a.test.limit (a.test.rest + (get_or a.u.now (removal_place a.p.next) 0 + a.p.term)) (Sum a.p.sums) a.test.s) e
    (subst (λ (m : ℕ). Answers itself a.test.limit (a.test.rest + (m + a.p.term)) (Sum a.p.sums) a.test.s c.opened.result) c.from.ensures c.opened.ensures)

pub returns-in_err-total : goal.returns-in_err-total
returns-in_err-total c =
    let a = c.args in
    let f = tested (goal.at.returns-in_err-total c).After-opened _ c.in_err-total.was in
    λ t sheet ds o at paid re. subst (OutFound sheet ds (tables_by t a.u.now) o at paid a.p a.test.limit a.test.rest a.test.s) (sym c.from_residual.ensures) (out_none re a.test.limit a.test.rest a.test.s f)

pub returns : goal.returns
returns c =
    let a = c.args in
    let f = tested (goal.at.returns c).After-opened _ c.in_ok-total.was in
    λ t sheet ds o at paid re. out_some re a.test.limit a.test.rest a.test.s c.out-stop.ensures f
