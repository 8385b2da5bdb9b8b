-- The numbers of a hall's answer can be printed: no more nodes than the walk number, and floor and cost at most what four lines' plans and 365 calls can cost. By the promise of the answer: the cost is that of a hall
-- plan, and the floor is no more than the cost of any.
use Prim.Native.Nat.{ℕ, zero, suc, ◌*◌, ◌≤◌}
use mathlib.Core.Path.{◌≡◌, refl}
use mathlib.Core.Bool.{cond}
use mathlib.Core.List.{List, [], ◌∷◌, map}
use native.Mathlib.Omega.{arith}
use lib.ListN.{length, take}
use Rattle.branch.specs.declared.Bound.TheVariants.{Sum}
use Rattle.branch.specs.Planning.{no_plan_lem2, cut_none, cut, optimum, nodes_of}
use Rattle.branch.proofs.Bounds.{sum_inj}
use Rattle.model.specs.Limits.{most_walk}
use Rattle.model.specs.Model.{Job, Plan, sum}
use Rattle.base.specs.Each.{All}
use Rattle.jobs.specs.Valid.{ValidJob}
use Rattle.jobs.specs.declared.accepted.Accepted.{Accepted}
use Rattle.plan_costs.proofs.Dearest.{cost_most}
use Rattle.findings.specs.Finding.{PrintableAnswer}
use Rattle.hall_model.specs.Hall.{Hall, Proper, HasPlans, horizon_of, some_stops, costs_of, hall_cost}
use Rattle.hall_model.specs.Limits as limits
use Rattle.hall_model.specs.LowerBound.{hall_bound}
use Rattle.hall_model.specs.Promise.{HallAnswer, HallAnswerPromise, hall_answer}
use Rattle.hall_model.proofs.Promised.{promise}
use Rattle.hall_model.proofs.Roots.{rooted, floor_least}
use Rattle.hall_jobs.specs.Hall.{line_of_lem}
use Rattle.hall_jobs.specs.Views.{hall_of}
use Rattle.hall_jobs.specs.declared.HallJobs.{HallJobs}
use Rattle.base.proofs.Bools.{cond_most}

-- the lines' own costs
costs_most : (jobs : List Job) → All ValidJob jobs → (plans : List Plan) → costs_of jobs plans ≤ length jobs * 2112000000
costs_most [] v plans = omega arith
costs_most (j ∷ jobs) v [] = omega arith
costs_most (j ∷ jobs) v (p ∷ plans) = omega (arith, cost_most j v.0 p, costs_most jobs v.1 plans)

-- a sum of n terms, each of a million at most
sum_most : (n from : ℕ) (f : ℕ → ℕ) → ((t : ℕ) → f t ≤ 1000000) → sum from n f ≤ n * 1000000
unfolding sum
sum_most zero from f h = omega arith
sum_most (suc n) from f h = omega (arith, h from, sum_most n (suc from) f h)

horizon_most : (jobs : List Job) → All ValidJob jobs → horizon_of jobs ≤ 365
horizon_most [] v = omega arith
horizon_most (j ∷ jobs) v = v.0.horizon_high

module _ (hall : Hall) (proper : Proper hall) (fits : limits.Fits hall) (valid : All ValidJob hall.jobs) where
  -- what a hall plan can cost
  hall_most : (plans : List Plan) → hall_cost hall plans ≤ 8813000000
  hall_most plans =
      let calls = sum_most (horizon_of hall.jobs) 1 (λ step. cond (some_stops hall.jobs plans step) hall.call 0) (λ t. omega (arith, fits.fair, cond_most (some_stops hall.jobs plans t) hall.call)) in
      omega (arith, calls, costs_most hall.jobs valid plans, fits.few, horizon_most hall.jobs valid)

  -- the floor is no more than the cost of a hall plan, and there is one
  floor_most : (f : ℕ) → hall_bound hall [] ≡ Sum f → f ≤ 8813000000
  floor_most f e =
      let h = rooted hall f e in
      let l = floor_least hall proper h.0 h.1 in
      omega (arith, sum_inj (hall_bound hall []) f l.0 e l.1, l.2, hall_most h.0)

  module _ (limit : ℕ) (low : limit ≤ most_walk) where
    nodes_most : (a : HallAnswer) → HallAnswerPromise hall limit a → HasPlans hall → nodes_of a ≤ most_walk
    nodes_most a p h = omega (arith, low, p.planned.nodes h)

    ranged : (a : HallAnswer) → HallAnswerPromise hall limit a → PrintableAnswer a
    ranged no_plan_lem2 p = tt
    ranged (cut_none n f) p = let h = (p.planned.says_7.0 refl).0 in (omega (arith, nodes_most (cut_none n f) p h), omega (arith, floor_most f (p.planned.floor h)))
    ranged (cut n f c q) p =
        let h = (p.planned.says_7.0 refl).0 in
        (omega (arith, nodes_most (cut n f c q) p h), omega (arith, floor_most f (p.planned.floor h)), omega (arith, p.planned.plan_for_lem.states, hall_most q))
    ranged (optimum n f c q) p =
        let h = (p.planned.says_0.0 refl).0 in
        (omega (arith, nodes_most (optimum n f c q) p h), omega (arith, floor_most f (p.planned.floor h)), omega (arith, p.planned.plan_for_lem.states, hall_most q))

    -- the numbers of the answer can be printed
    pub answer_ranged : PrintableAnswer (hall_answer hall limit)
    answer_ranged = ranged (hall_answer hall limit) (promise hall proper limit)

-- each line of a struct's hall is valid
all_valid : (jobs : List Accepted) → All ValidJob (map line_of_lem jobs)
all_valid [] = tt
all_valid (a ∷ jobs) = (a.valid, all_valid jobs)

-- each line's job of an accepted hall is valid
pub lines_valid : (h : HallJobs) → All ValidJob (hall_of h).jobs
lines_valid h = all_valid (take h.count h.jobs)
