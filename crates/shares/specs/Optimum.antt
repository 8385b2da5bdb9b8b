-- The walk in the planner's order with another estimate: any that is admissible ends with the plan that the planner promises. The estimate by fair shares is.
use Rattle.std.specs.Prelude.{◌≡◌, Bool, List, [], ◌++◌, ℕ}
use Rattle.branch.specs.declared.Bound.{Bound}
use Rattle.branch.specs.declared.Bound.TheVariants.{Sum}
use Rattle.branch.specs.Search.{Tree, NoMore}
use Rattle.branch.specs.Questions.{Full, asked}
use Rattle.branch.specs.Planning.{Problem, answer_of}
use Rattle.model.specs.Model.{Job, Plan, cost_of_lem, KeepsLives, HasPlan}
use Rattle.model.specs.Decisions.{decisions_of, WithinPlan}
use Rattle.model.specs.LowerBound.{node_at, stop_cost, plan_at}
use Rattle.model.specs.Promise.{PlannerAnswer, questions}
use Rattle.shares.specs.Shares.{Shares, estimate}

-- what an estimate of the nodes of the planner's walk owes
pub record Admissible (job : Job) (bound : List Bool → Bound) : Type 0 where
  -- it is no more than that of any full node below
  pub lower : (p s : List Bool) → Full (questions job) (p ++ s) → NoMore (bound p) (bound (p ++ s))
  -- of a full node it is the least cost of the node's decisions
  pub full : (s : List Bool) → Full (questions job) s → bound s ≡ stop_cost job s
  -- where the first node has one there is a plan
  pub rooted : (f : ℕ) → bound [] ≡ Sum f → HasPlan job

-- the planner's tree with this estimate
abbrev pub tree_by : Job → (List Bool → Bound) → Tree
tree_by job bound = asked bound (questions job)

-- a job's plans, searched with it: plans, costs and the order of ties are the model's
abbrev pub problem_by : Job → (List Bool → Bound) → Problem
problem_by job bound = record {
  Plan = Plan;
  Keeps = KeepsLives job;
  cost = cost_of_lem job;
  decisions = decisions_of job;
  Within = WithinPlan job;
  tree = tree_by job bound;
  root = bound [];
  plan_at = plan_at job;
}

-- the answer at the walk number `limit`
abbrev pub answer_by : Job → (List Bool → Bound) → ℕ → PlannerAnswer
answer_by job bound limit = answer_of (problem_by job bound) limit

-- ---- by shares

-- the estimate of the node named p
abbrev pub shared_bound : Job → Shares → List Bool → Bound
shared_bound job shares p = estimate job shares (node_at job p)

-- the answer of the walk with shares
abbrev pub shared_answer : Job → Shares → ℕ → PlannerAnswer
shared_answer job shares limit = answer_by job (shared_bound job shares) limit
