-- `plans_of` has each line's plan.
use Prim.Native.Nat.{ℕ, ◌+◌, ◌<◌}
use mathlib.Core.Path.{◌≡◌, refl, sym, subst, ◌∙◌}
use mathlib.Core.List.{List}
use native.Mathlib.Omega.{arith}
use native.Mathlib.Decide.{ℕ_discrete}
use lib.ListN.{get_or, set, length-set}
use lib.Seq.{get_or-set_same, get_or-set_other}
use Rattle.base.proofs.Bools.{there}
use Rattle.jobs.specs.declared.Plan.{Plan}
use Rattle.jobs.specs.declared.accepted.Accepted.{Accepted}
use Rattle.hall_state.specs.Courses.{rows_at}
use Rattle.hall_search.specs.Plans.{PlanOf}
use Rattle.hall_search.proofs.plans.plans_of.Goals as goal

pub loop-d-init : goal.loop-d-init
loop-d-init c = record { size = refl; done = λ e a p l. absurd (omega (arith, l)) }

pub loop-d-preserved : goal.loop-d-preserved
loop-d-preserved c = record { size = length-set plans d x ∙ c.loop-d.invariant.size; done = λ e a p l. go e a p l (ℕ_discrete e d) }
  where
    plans : List Plan
    plans = c.loop-d.plans

    d : ℕ
    d = c.loop-d.d

    x : Plan
    x = c.line_plan.result

    go : (e : ℕ) (a : Accepted) (p : Plan) → e < d + 1 → Dec (e ≡ d) → PlanOf (get_or c.args.hall.now.jobs e a).job (rows_at c.args.rows.now e).v (get_or c.args.best.now e 0) (get_or (set plans d x) e p)
    go e a p l (yes z) =
        let h = c.args.hall.now in
        let job = there h.jobs d c.index-hall-d.result a (omega (arith, c.loop-d-test.true, h.few, h.long)) in
        let own = subst (λ (b : Accepted). PlanOf b.job (rows_at c.args.rows.now d).v (get_or c.args.best.now d 0) x) job c.line_plan.ensures in
        let put = sym (get_or-set_same plans d x p (omega (arith, c.loop-d-test.true, h.few, c.loop-d.invariant.size))) in
        subst (λ (j : ℕ). PlanOf (get_or h.jobs j a).job (rows_at c.args.rows.now j).v (get_or c.args.best.now j 0) (get_or (set plans d x) j p)) (sym z)
        (subst (PlanOf (get_or h.jobs d a).job (rows_at c.args.rows.now d).v (get_or c.args.best.now d 0)) put own)
    go e a p l (no z) =
        subst (PlanOf (get_or c.args.hall.now.jobs e a).job (rows_at c.args.rows.now e).v (get_or c.args.best.now e 0)) (sym (get_or-set_other plans d e x p z)) (c.loop-d.invariant.done e a p (omega (arith, l, z)))

pub returns : goal.returns
returns c = record { size = c.loop-d.invariant.size; each = λ d a p l. c.loop-d.invariant.done d a p (omega (arith, l, c.loop-d-test.false)) }
