-- The walk that knows a cost: it looks for plans that cost less, and where it ends it has one of least cost, or certifies that no plan costs less. For a tree of any shape and order.
use Rattle.std.specs.Prelude.{◌≡◌, Bool, true, false, cond, List, ◌↔◌, ℕ, ◌≤◌, ◌<◌, min, ltb}
use Rattle.branch.specs.Search.{Tree, Incumbent, none, plan}
use Rattle.known_cost.specs.Known.{walk_under, count_under}
use Rattle.model.specs.Model.{Job, Plan, cost_of_lem, KeepsLives}

-- ---- what it says

-- what a walk that knows a cost ends with
pub data Certificate : Type 0 where
  least : (nodes : ℕ) → Certificate  -- no plan costs less
  cheaper : (nodes cost : ℕ) → Plan → Certificate  -- a plan of least cost, which is less
  further : (nodes : ℕ) → Certificate  -- the walk has more nodes than `limit`

-- by the last state, where full nodes have these plans
abbrev pub certified : (List Bool → Plan) → ℕ → ℕ → Bool → Incumbent → Certificate
certified plan_of cost nodes true b = further nodes
certified plan_of cost nodes false none = least nodes
certified plan_of cost nodes false (plan c s) = cond (ltb c cost) (cheaper nodes c (plan_of s)) (least nodes)

-- the certificate at the walk number `limit`
abbrev pub certify : Tree → (List Bool → Plan) → ℕ → ℕ → Certificate
certify t plan_of cost limit = let l = walk_under t cost limit in certified plan_of cost l.count l.over l.incumbent

-- ---- what that is worth

-- no plan that keeps the lives costs less
abbrev pub NoneUnder : Job → ℕ → Type 0
NoneUnder job cost = (q : Plan) → KeepsLives job q → cost ≤ cost_of_lem job q

-- some plan that keeps the lives costs less
abbrev pub OneUnder : Job → ℕ → Type 0
OneUnder job cost = (q : Plan) × KeepsLives job q × (cost_of_lem job q < cost)

-- which of the three it is
abbrev pub IsLeast : Certificate → Type 0
IsLeast (least n) = Unit {0}
IsLeast (cheaper n c p) = ⊥
IsLeast (further n) = ⊥

-- it has a plan that costs less
abbrev pub IsCheaper : Certificate → Type 0
IsCheaper (least n) = ⊥
IsCheaper (cheaper n c p) = Unit {0}
IsCheaper (further n) = ⊥

-- its walk has more nodes than the walk number
abbrev pub IsFurther : Certificate → Type 0
IsFurther (least n) = ⊥
IsFurther (cheaper n c p) = ⊥
IsFurther (further n) = Unit {0}

-- the nodes walked
abbrev pub nodes_in : Certificate → ℕ
nodes_in (least n) = n
nodes_in (cheaper n c p) = n
nodes_in (further n) = n

-- the plan is of least cost over all plans of the model
pub record Lowest (job : Job) (cost : ℕ) (p : Plan) : Type 0 where
  pub keeps : KeepsLives job p
  pub states : cost_of_lem job p ≡ cost
  pub least : (other : Plan) → KeepsLives job other → cost ≤ cost_of_lem job other

-- what the plan that is handed over is: good (`Lowest`, or best by the tie rule), and it costs less than what was known
abbrev pub PlanIn : (ℕ → Plan → Type 0) → ℕ → Certificate → Type 0
PlanIn Good cost (least n) = Unit {0}
PlanIn Good cost (cheaper n c p) = Good c p × (c < cost)
PlanIn Good cost (further n) = Unit {0}

-- what is promised of a certificate
pub record Certifies (job : Job) (t : Tree) (Good : ℕ → Plan → Type 0) (cost limit : ℕ) (a : Certificate) : Type 0 where
  -- it ends without a better plan exactly if no plan costs less
  pub says_least : IsLeast a ↔ (NoneUnder job cost × (count_under t cost ≤ limit))
  -- and with one exactly if some plan does
  pub says_cheaper : IsCheaper a ↔ (OneUnder job cost × (count_under t cost ≤ limit))
  pub says_further : IsFurther a ↔ (limit < count_under t cost)
  pub nodes : nodes_in a ≡ min limit (count_under t cost)
  pub plan_for_lem : PlanIn Good cost a
