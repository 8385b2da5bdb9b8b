-- The walk before E4, whose estimate was `stop_cost` alone. E4.4 speaks of it, and nothing else does.
use Rattle.std.specs.Prelude.{ℕ, []}
use Rattle.branch.specs.Search.{Tree, at_most}
use Rattle.branch.specs.Questions.{asked}
use Rattle.model.specs.Model.{Job}
use Rattle.model.specs.LowerBound.{stop_cost}
use Rattle.model.specs.Promise.{PlannerAnswer, questions, answered_at}

-- the tree of the walk before
abbrev pub old_tree : Job → Tree
old_tree job = asked (stop_cost job) (questions job)

-- its answer at the walk number `limit`
unfoldable pub old_answer : Job → ℕ → PlannerAnswer
old_answer job limit = answered_at job (stop_cost job []) (at_most limit (old_tree job))
