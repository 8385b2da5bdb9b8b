-- Planning by the search: what a planner says of a problem at a walk number, its `limit`, and what it promises; W1 to W11, R0, R6 and R7, whatever a plan is.
use Rattle.std.specs.Prelude.{◌≡◌, Bool, true, false, List, ◌⊎◌, ◌↔◌, ℕ, ◌≤◌, ◌<◌, min, length, take}
use Rattle.branch.specs.declared.Bound.{Bound}
use Rattle.branch.specs.declared.Bound.TheVariants.{Missing, Sum}
use Rattle.branch.specs.Search.{Tree, Incumbent, none, plan, whole, Limited, at_most, Before, In}

-- ---- what is planned

-- what any plan is, keeps, costs and decides, and the tree in which the best one is searched
pub record Problem : Type 1 where
  pub Plan : Type 0
  pub Keeps : Plan → Type 0  -- the plan keeps the lives
  pub cost : Plan → ℕ  -- its true cost
  pub decisions : Plan → List Bool  -- what it decides, in the walk's order
  pub Within : Plan → Type 0  -- what the best plan is to be within its decisions: T2. "Within the stops, each part's least-price change set is chosen the same way."
  pub tree : Tree  -- the tree that is searched
  pub root : Bound  -- its first node's bound
  pub plan_at : List Bool → Plan  -- the plan of a full node

-- M13. "A job has a plan if some plan keeps its lives."
abbrev pub HasPlan : Problem → Type 0
HasPlan problem = (p : problem.Plan) × problem.Keeps p

-- the best plan among those whose decisions are `Among`: it keeps the lives at its true cost, and none of them costs less; T1. of those of equal least cost, the one that
-- decides no at the earliest decision where they differ is taken
pub record Best (problem : Problem) (Among : List Bool → Type 0) (cost : ℕ) (p : problem.Plan) : Type 0 where
  pub keeps : problem.Keeps p
  pub among : Among (problem.decisions p)
  pub states : problem.cost p ≡ cost
  pub least : (other : problem.Plan) → problem.Keeps other → Among (problem.decisions other) → cost ≤ problem.cost other
  pub first : (other : problem.Plan) → problem.Keeps other → Among (problem.decisions other) → problem.cost other ≡ cost
      → (problem.decisions other ≡ problem.decisions p) ⊎ Before (problem.decisions p) (problem.decisions other)
  pub within : problem.Within p

-- ---- W9. "the whole walk, the one without a limit"

-- its nodes, in order
abbrev pub whole_walk : Problem → List (List Bool)
whole_walk problem = (whole problem.tree).nodes

-- W10. "the number of points of the whole walk"
abbrev pub whole_count : Problem → ℕ
whole_count problem = length (whole_walk problem)

-- W9. "If the whole walk [..] has more, exactly that many are walked": its first nodes, `limit` at most
abbrev pub walked : Problem → ℕ → List (List Bool)
walked problem limit = take limit (whole_walk problem)

-- ---- the answers

-- with the values that are printed
pub data Answer (Plan : Type 0) : Type 0 where
  no_plan_lem2 : Answer Plan  -- 6
  cut_none : (nodes floor : ℕ) → Answer Plan  -- 7, no plan among the nodes walked
  cut : (nodes floor cost : ℕ) → Plan → Answer Plan  -- 7, the best plan among them
  optimum : (nodes floor cost : ℕ) → Plan → Answer Plan  -- 0

-- the result number
abbrev pub result_of : {Plan : Type 0} → Answer Plan → ℕ
result_of no_plan_lem2 = 6
result_of (cut_none n f) = 7
result_of (cut n f c p) = 7
result_of (optimum n f c p) = 0

-- the `nodes` printed with 0 and 7
abbrev pub nodes_of : {Plan : Type 0} → Answer Plan → ℕ
nodes_of no_plan_lem2 = 0
nodes_of (cut_none n f) = n
nodes_of (cut n f c p) = n
nodes_of (optimum n f c p) = n

-- the `floor` printed with 0 and 7
abbrev pub floor_of : {Plan : Type 0} → Answer Plan → ℕ
floor_of no_plan_lem2 = 0
floor_of (cut_none n f) = f
floor_of (cut n f c p) = f
floor_of (optimum n f c p) = f

-- ---- the answer, computed

-- by the floor, the nodes walked, whether there are more, and the incumbent
abbrev pub answered : {Plan : Type 0} → (List Bool → Plan) → ℕ → ℕ → Bool → Incumbent → Answer Plan
answered plan_at floor nodes true none = cut_none nodes floor
answered plan_at floor nodes true (plan c s) = cut nodes floor c (plan_at s)
answered plan_at floor nodes false none = no_plan_lem2
answered plan_at floor nodes false (plan c s) = optimum nodes floor c (plan_at s)

-- by the first node's bound and the walk's last state
abbrev pub answered_at : {Plan : Type 0} → (List Bool → Plan) → Bound → Limited → Answer Plan
answered_at plan_at Missing l = no_plan_lem2
answered_at plan_at (Sum floor) l = answered plan_at floor l.count l.over l.incumbent

-- the answer at the walk number `limit`
abbrev pub answer_of : (problem : Problem) → ℕ → Answer problem.Plan
answer_of problem limit = answered_at problem.plan_at problem.root (at_most limit problem.tree)

-- ---- the promise

-- any decisions
abbrev pub Any : List Bool → Type 0
Any s = Unit {0}

-- decisions that are one of the nodes walked
abbrev pub Walked : Problem → ℕ → List Bool → Type 0
Walked problem limit s = In s (walked problem limit)

-- what the printed plan is, case by case
abbrev pub PlanFor : (problem : Problem) → ℕ → Answer problem.Plan → Type 0
PlanFor problem limit no_plan_lem2 = Unit {0}
-- W9. 7: "with the best plan among them if there is one"
PlanFor problem limit (cut_none n f) = (other : problem.Plan) → problem.Keeps other → Walked problem limit (problem.decisions other) → ⊥
PlanFor problem limit (cut n f c p) = Best problem (Walked problem limit) c p
-- D7. 0: "Least cost is over all plans of the model, never over points walked."
PlanFor problem limit (optimum n f c p) = Best problem Any c p

-- what is promised of the answer to a problem at the walk number `limit`
pub record Promise (problem : Problem) (limit : ℕ) (a : Answer problem.Plan) : Type 0 where
  -- R6. "6: no plan keeps the lives. Planner only, and independent of `walk`."
  pub says_6 : (result_of a ≡ 6) ↔ (HasPlan problem → ⊥)
  -- R7. "7: the walk has more points than `walk`."; R20. "6 before 7"
  pub says_7 : (result_of a ≡ 7) ↔ (HasPlan problem × (limit < whole_count problem))
  -- D6. otherwise 0
  pub says_0 : (result_of a ≡ 0) ↔ (HasPlan problem × (whole_count problem ≤ limit))
  -- W10. "So `nodes` is the smaller of `walk` and the number of points of the whole walk."
  pub nodes : HasPlan problem → nodes_of a ≡ min limit (whole_count problem)
  -- W11. "The floor is the first point's estimate, at any walk number, 0 included."
  pub floor : HasPlan problem → problem.root ≡ Sum (floor_of a)
  -- D6. the plan: keeps the lives, its true cost, the least, the tie rule
  pub plan_for_lem : PlanFor problem limit a
  -- D6. 0: any larger walk number gives the same answer
  pub any_walk : result_of a ≡ 0 → (larger : ℕ) → limit ≤ larger → answer_of problem larger ≡ a
