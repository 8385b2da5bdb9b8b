-- Lifts: a number for each level of the planner's walk, which every completion from there costs above the estimate by shares, whatever was decided before. The estimate with it is still admissible.
use Rattle.std.specs.Prelude.{◌≡◌, Bool, List, ◌++◌, ℕ, ◌≤◌, length}
use Rattle.branch.specs.declared.Bound.{Bound}
use Rattle.branch.specs.declared.Bound.TheVariants.{Sum}
use Rattle.branch.specs.Lower.{add}
use Rattle.branch.specs.Search.{NoMore}
use Rattle.branch.specs.Questions.{Full, done, repeated}
use Rattle.model.specs.Model.{Job}
use Rattle.model.specs.LowerBound.{inner, node_at, stop_cost}
use Rattle.model.specs.Promise.{PlannerAnswer, questions}
use Rattle.shares.specs.Shares.{Shares}
use Rattle.shares.specs.Optimum.{shared_bound, answer_by}

-- the name of a node at level l: the first l openings are decided, with all their removals, and nothing else
abbrev pub Level : Job → ℕ → List Bool → Type 0
Level job l p = Full (repeated l (repeated (inner job) done done) done) p

-- every full node below a node at level l costs at least f more than that node's estimate
abbrev pub Lifts : Job → Shares → ℕ → ℕ → Type 0
Lifts job shares l f = (p s : List Bool) → Level job l p → Full (questions job) (p ++ s) → NoMore (add (shared_bound job shares p) (Sum f)) (stop_cost job (p ++ s))

-- a number for each level: the only conditions
pub record Lifted (job : Job) (shares : Shares) (lift : ℕ → ℕ) : Type 0 where
  pub each : (l : ℕ) → l ≤ length job.openings → Lifts job shares l (lift l)
  pub last : lift (length job.openings) ≡ 0

-- the level whose lift a node may add: how many openings are decided, the last one with all its removals or not
abbrev pub level_of : Job → List Bool → ℕ
level_of job p = length (node_at job p)

-- the estimate with lifts
abbrev pub lifted_bound : Job → Shares → (ℕ → ℕ) → List Bool → Bound
lifted_bound job shares lift p = add (shared_bound job shares p) (Sum (lift (level_of job p)))

-- the answer of the walk with it
abbrev pub lifted_answer : Job → Shares → (ℕ → ℕ) → ℕ → PlannerAnswer
lifted_answer job shares lift limit = answer_by job (lifted_bound job shares lift) limit
