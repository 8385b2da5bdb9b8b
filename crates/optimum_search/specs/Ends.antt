-- What the end of the search for the cheapest plan is worth, in the planner's answers: the best of all plans, that there is none, or that a walk has more nodes than the walk number.
use Rattle.std.specs.Prelude.{ℕ, ◌≤◌, ◌<◌, ◌≡◌, ◌⊎◌, Option, None, Some, [], min}
use Rattle.branch.specs.declared.Bound.TheVariants.{Sum}
use Rattle.model.specs.Model.{Job, Plan, HasPlan, KeepsLives}
use Rattle.model.specs.Decisions.{decisions_of}
use Rattle.model.specs.LowerBound.{bound_of}
use Rattle.model.specs.Promise.{PlannerAnswer, no_plan_lem2, cut_none, cut, optimum, BestPlan, Any, Walked, whole_count}
use Rattle.shares.specs.Certificate.{NoneUnder}
use Rattle.lane_rows.specs.Layout.{inf}
use Rattle.share_search.specs.Sought.{Longer}

-- the most nodes of the first counted walk
abbrev pub first_nodes : ℕ
first_nodes = 131072

-- the planner's whole walk has more nodes than the walk number, and no plan costs less than the last cutoff, so that the walks by shares can find none
pub record LongerCounted (job : Job) (walk : ℕ) : Type 0 where
  pub longer : walk < whole_count job
  pub none_under : NoneUnder job inf

-- why no plan is called the best, where what a plan in hand costs, if there is one, is `in_hand`
pub record Beyond (job : Job) (walk floor : ℕ) (in_hand : Option ℕ) : Type 0 where
  pub has_plan : HasPlan job
  -- the planner's whole walk does not end within the walk number and the nodes of the first walk
  pub first : min walk first_nodes < whole_count job
  -- no plan costs less than the floor
  pub none_under : NoneUnder job floor
  -- the floor is no lower than the planner's
  pub planners : (f : ℕ) → bound_of job [] ≡ Sum f → f ≤ floor
  -- one of the walks has more nodes than the walk number: a walk by some fair shares, with some lifts of its levels, that looks for a plan which costs no more than the one in hand, or the planner's whole walk
  pub longer : Longer job in_hand walk floor ⊎ LongerCounted job walk

-- the first nodes of the planner's walk that were looked at for a plan: no fewer than the first walk has, and no more than the walk number
pub record LookedNodes (walk nodes : ℕ) : Type 0 where
  pub least : min walk first_nodes ≤ nodes
  pub most : nodes ≤ walk

-- a plan in hand: the best among these first nodes of the planner's walk, so it keeps every life and states its true cost
pub record InHand (job : Job) (walk cost : ℕ) (plan : Plan) : Type 0 where
  pub nodes : ℕ
  pub looked : LookedNodes walk nodes
  pub best : BestPlan job (Walked job nodes) cost plan

-- no plan in hand: none is among these first nodes
pub record NoneInHand (job : Job) (walk : ℕ) : Type 0 where
  pub nodes : ℕ
  pub looked : LookedNodes walk nodes
  pub none : (q : Plan) → KeepsLives job q → Walked job nodes (decisions_of job q) → ⊥

-- what is promised of an answer to a job at a walk number, case by case; the nodes are those of the counted walk that ended last, or none
abbrev pub Ends : Job → ℕ → PlannerAnswer → Type 0
Ends job walk no_plan_lem2 = HasPlan job → ⊥
Ends job walk (cut_none nodes floor) = Beyond job walk floor None × NoneInHand job walk
Ends job walk (cut nodes floor cost plan) = Beyond job walk floor (Some cost) × InHand job walk cost plan
Ends job walk (optimum nodes floor cost plan) = BestPlan job Any cost plan
