-- `paid_at`: the removals of the parts that come out with those changed there.
use Prim.Native.Nat.{ℕ, ◌≤◌}
use mathlib.Core.Path.{sym, subst, ◌∙◌}
use native.Mathlib.Omega.{arith}
use lib.ListN.{take, length-take}
use Rattle.plan_costs.specs.Dearest.{dearest_stop}
use Rattle.plan_costs.proofs.Removed.{paid_is, stop_most}
use Rattle.plan_costs.proofs.removals.paid_at.Goals as goal

pub returns-clause-paid : goal.returns-clause-paid
returns-clause-paid c n job h p long r v =
    let a = c.args in
    c.sum_at.ensures
    ∙ paid_is job a.m n a.changes.now p c.requires.0 long a.outs.now r a.k c.changed_at-changed.result c.union-out.result a.removals.now h c.changed_at-changed.ensures c.union-out.ensures v

pub returns-clause-little : goal.returns-clause-little
returns-clause-little c =
    subst (λ (x : ℕ). x ≤ dearest_stop) (sym c.sum_at.ensures) (stop_most (take c.args.m c.args.removals.now) _ (omega (arith, c.requires.0, length-take c.args.m c.args.removals.now)) c.requires.2)
