-- E14.9. "if call is 0 the cost is the sum of the lines' own least costs": where calls cost nothing, the lines' least plans are a least hall plan.
use mathlib.Core.Path.{◌≡◌, refl, ap, subst, ◌∙◌}
use mathlib.Core.Bool.{Bool, true, false, cond}
use mathlib.Core.List.{List, [], ◌∷◌}
use Prim.Native.Nat.{ℕ, ◌≤◌}
use native.Mathlib.Omega.{arith}
use Rattle.branch.specs.Planning.{Best, Answer, no_plan_lem2, cut_none, cut, optimum, result_of, Any, PlanFor, Promise}
use Rattle.model.specs.Model.{Job, Plan, Each, KeepsLives, HasPlan}
use Rattle.model.specs.Promise.{whole_count, job_problem, answer_of}
use Rattle.model.proofs.Promised.{promise as line-promise}
use Rattle.model.proofs.Sums.{sum_none, sum_same}
use Rattle.hall_model.specs.Hall.{Hall, horizon_of, some_stops, calls_of, costs_of, sum_of}
use Rattle.hall_model.specs.Promise.{hall_problem, HallAnswer, LeastCost, SumOfLeast, FreeFor}

-- ---- the least cost of a job

-- the planner's, where it says 0
pub least_of_lem2 : (job : Job) (limit n f m : ℕ) (p : Plan) → answer_of job limit ≡ optimum n f m p → LeastCost job m
least_of_lem2 job limit n f m p e =
    let b = (subst (Promise (job_problem job) limit) e (line-promise job limit)).plan_for_lem in
    record { plan = p; keeps = b.keeps; states = b.states; least = λ o k. b.least o k tt }

-- there is one where there is a plan
pub least_there : (job : Job) → HasPlan job → (m : ℕ) × LeastCost job m
least_there job h =
    let limit = whole_count job in
    go (answer_of job limit) refl ((line-promise job limit).says_0.1 (h, omega arith))
  where
    go : (a : Answer Plan) → answer_of job (whole_count job) ≡ a → result_of (answer_of job (whole_count job)) ≡ 0 → (m : ℕ) × LeastCost job m
    go no_plan_lem2 e r = absurd (omega (arith, ap result_of e))
    go (cut_none n f) e r = absurd (omega (arith, ap result_of e))
    go (cut n f c p) e r = absurd (omega (arith, ap result_of e))
    go (optimum n f c p) e r = (c, least_of_lem2 job (whole_count job) n f c p e)

-- ---- the lines'

-- some m for each line, and together they are a hall plan of their sum
least_plans : (jobs : List Job) (ms : List ℕ) → Each LeastCost jobs ms → (plans : List Plan) × Each KeepsLives jobs plans × (costs_of jobs plans ≡ sum_of ms)
least_plans [] [] e = ([], tt, refl)
least_plans [] (m ∷ ms) e = absurd e
least_plans (job ∷ jobs) [] e = absurd e
least_plans (job ∷ jobs) (m ∷ ms) e =
    let r = least_plans jobs ms e.1 in
    (e.0.plan ∷ r.0, (e.0.keeps, r.1), omega (arith, e.0.states, r.2))

-- which no other undercuts
least_sum_lem : (jobs : List Job) (ms : List ℕ) (plans : List Plan) → Each LeastCost jobs ms → Each KeepsLives jobs plans → sum_of ms ≤ costs_of jobs plans
least_sum_lem [] [] plans e k = omega arith
least_sum_lem [] (m ∷ ms) plans e k = absurd e
least_sum_lem (job ∷ jobs) [] plans e k = absurd e
least_sum_lem (job ∷ jobs) (m ∷ ms) [] e k = absurd k
least_sum_lem (job ∷ jobs) (m ∷ ms) (p ∷ plans) e k = omega (arith, e.0.least p k.0, least_sum_lem jobs ms plans e.1 k.1)

all_least : (jobs : List Job) (plans : List Plan) → Each KeepsLives jobs plans → (ms : List ℕ) × Each LeastCost jobs ms
all_least [] plans k = ([], tt)
all_least (job ∷ jobs) [] k = absurd k
all_least (job ∷ jobs) (p ∷ plans) k =
    let l = least_there job (p, k.0) in
    let r = all_least jobs plans k.1 in
    (l.0 ∷ r.0, (l.1, r.1))

module _ (hall : Hall) (free : hall.call ≡ 0) where
  -- calls at no price
  no_calls : (plans : List Plan) → calls_of hall plans ≡ 0
  no_calls plans =
      sum_same (horizon_of hall.jobs) 1 (λ step. cond (some_stops hall.jobs plans step) hall.call 0) (λ _. 0) (λ step _ _. go (some_stops hall.jobs plans step))
      ∙ sum_none (horizon_of hall.jobs) 1
    where
      go : (b : Bool) → cond b hall.call 0 ≡ 0
      go true = free
      go false = refl

  -- the least cost of the hall is the sum of the lines'
  pub free_least : (c : ℕ) (plans : List Plan) → Best (hall_problem hall) Any c plans → (ms : List ℕ) → Each LeastCost hall.jobs ms → c ≡ sum_of ms
  free_least c plans b ms e =
      let l = least_plans hall.jobs ms e in
      omega (arith, b.least l.0 l.1 tt, l.2, no_calls l.0, least_sum_lem hall.jobs ms plans e b.keeps, no_calls plans, b.states)

  -- so is the cost of the best hall plan, where each line has a least cost because it has a plan
  pub free_best : (c : ℕ) (plans : List Plan) → Best (hall_problem hall) Any c plans → SumOfLeast hall c
  free_best c plans b =
      let ms = all_least hall.jobs plans b.keeps in
      (ms.0, ms.1, free_least c plans b ms.0 ms.1)

-- so with result 0
pub free_for : (hall : Hall) (limit : ℕ) (a : HallAnswer) → PlanFor (hall_problem hall) limit a → FreeFor hall a
free_for hall limit no_plan_lem2 p = tt
free_for hall limit (cut_none n f) p = tt
free_for hall limit (cut n f c plans) p = tt
free_for hall limit (optimum n f c plans) p = λ free. free_best hall free c plans p
