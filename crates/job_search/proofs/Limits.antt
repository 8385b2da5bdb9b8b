-- How large the numbers of an accepted job's answer can be: no more nodes than the limit, and floor and cost at most what a plan can cost.
-- By the promise of the answer: the cost is that of a plan, and the floor is no more than the cost of any.
use Prim.Native.Nat.{ℕ, ◌≤◌}
use mathlib.Core.Path.{◌≡◌, refl}
use mathlib.Core.List.{[]}
use native.Mathlib.Omega.{arith}
use Rattle.branch.specs.declared.Bound.TheVariants.{Sum}
use Rattle.branch.proofs.Bounds.{sum_inj}
use Rattle.model.specs.Model as model
use Rattle.model.specs.Model.{HasPlan}
use Rattle.model.specs.LowerBound.{bound_of}
use Rattle.model.specs.Promise.{PlannerAnswer, no_plan_lem2, cut_none, cut, optimum, answer_of, nodes_of, Promise}
use Rattle.model.proofs.Roots.{rooted, floor_least}
use Rattle.model.proofs.Promised.{promise}
use Rattle.jobs.specs.Valid.{ValidJob}
use Rattle.plan_costs.specs.Dearest.{dearest_plan}
use Rattle.plan_costs.proofs.Dearest.{cost_most}

-- the values that are printed
abbrev pub Ranged : ℕ → PlannerAnswer → Type 0
Ranged limit no_plan_lem2 = Unit {0}
Ranged limit (cut_none nodes floor) = (nodes ≤ limit) × (floor ≤ dearest_plan)
Ranged limit (cut nodes floor cost p) = (nodes ≤ limit) × (floor ≤ dearest_plan) × (cost ≤ dearest_plan)
Ranged limit (optimum nodes floor cost p) = (nodes ≤ limit) × (floor ≤ dearest_plan) × (cost ≤ dearest_plan)

module _ (job : model.Job) (valid : ValidJob job) where
  -- the floor is no more than the cost of a plan, and there is one
  pub floor_most : (f : ℕ) → bound_of job [] ≡ Sum f → f ≤ dearest_plan
  floor_most f e =
      let h = rooted job f e in
      let l = floor_least job h.0 h.1 in
      omega (arith, sum_inj (bound_of job []) f l.0 e l.1, l.2, cost_most job valid h.0)

  module _ (limit : ℕ) where
    -- the values of an answer that keeps the promise
    nodes_most : (a : PlannerAnswer) → Promise job limit a → HasPlan job → nodes_of a ≤ limit
    nodes_most a p h = omega (arith, p.nodes h)

    ranged : (a : PlannerAnswer) → Promise job limit a → Ranged limit a
    ranged no_plan_lem2 p = tt
    ranged (cut_none n f) p = let h = (p.says_7.0 refl).0 in (nodes_most (cut_none n f) p h, floor_most f (p.floor h))
    ranged (cut n f c q) p = let h = (p.says_7.0 refl).0 in (nodes_most (cut n f c q) p h, floor_most f (p.floor h), omega (arith, p.plan_for_lem.states, cost_most job valid q))
    ranged (optimum n f c q) p = let h = (p.says_0.0 refl).0 in (nodes_most (optimum n f c q) p h, floor_most f (p.floor h), omega (arith, p.plan_for_lem.states, cost_most job valid q))

    -- the answer's nodes are at most the limit, and its floor and cost at most what a plan can cost
    pub answer_ranged : Ranged limit (answer_of job limit)
    answer_ranged = ranged (answer_of job limit) (promise job limit)
