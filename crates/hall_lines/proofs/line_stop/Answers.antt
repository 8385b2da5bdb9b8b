-- `line_stop` tests the line's stop, and notes its row as not ready if it is walked on.
use Prim.Native.Nat.{ℕ, ◌+◌}
use mathlib.Core.Path.{◌≡◌, sym, subst, ap₂}
use Rattle.std.specs.Prelude.{Option}
use native.Mathlib.Omega.{arith}
use Rattle.branch.specs.declared.Bound.TheVariants.{Sum}
use Rattle.hall_lines.specs.Levels.{sums_in}
use Rattle.hall_lines.specs.Lines.{looks, Answers, itself, StopFound, stop_due}
use Rattle.hall_lines.proofs.Lines.{stop_cheap, stop_none, stop_some}
use Rattle.hall_lines.proofs.line_stop.Goals as goal
use Rattle.hall_lines.proofs.line_stop.Goals.{After-opened}

-- what the test said
tested : (c : After-opened) (r : Option ℕ) → c.opened.result ≡ r → let a = c.args in Answers itself a.test.limit (a.test.rest + stop_due a.tables.now a.at) (Sum (sums_in a.own.now.n a.at)) a.test.s r
tested c r e = let a = c.args in
    subst (Answers itself a.test.limit (a.test.rest + stop_due a.tables.now a.at) (Sum (sums_in a.own.now.n a.at)) a.test.s) e
    (subst (λ (m : ℕ). Answers itself a.test.limit (a.test.rest + m) (Sum (sums_in a.own.now.n a.at)) a.test.s c.opened.result) (ap₂ (λ (m n : ℕ). m + n) c.from.ensures c.from-2.ensures) c.opened.ensures)

pub opened-requires : goal.opened-requires
opened-requires c = omega (arith, c.from.ensures, c.from-2.ensures, stop_cheap c.requires.1.1.1.1)

pub returns-in_err-total-clause-found : goal.returns-in_err-total-clause-found
returns-in_err-total-clause-found c =
    let a = c.args in
    let f = tested (goal.at.returns-in_err-total-clause-found c).After-opened _ c.in_err-total.was in
    λ w sheet ds paid op. subst (StopFound sheet ds a.tables.now (looks a.own.now w) (looks a.own.now w) a.at paid a.test.limit a.test.rest a.test.s) (sym c.from_residual.ensures) (stop_none op a.test.limit a.test.rest a.test.s f)

pub returns-clause-found : goal.returns-clause-found
returns-clause-found c =
    let a = c.args in
    let f = tested (goal.at.returns-clause-found c).After-opened _ c.in_ok-total.was in
    λ w sheet ds paid op. stop_some op a.test.limit a.test.rest a.test.s f
