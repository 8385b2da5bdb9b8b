-- The hall planner's answer to an accepted hall at a walk number, its `limit`, and what it promises. Both are branch's `Planning`, for a hall.
use Rattle.std.specs.Prelude.{◌≡◌, List, [], ◌↔◌, ℕ, ◌≤◌}
use Rattle.branch.specs.Search.{Tree}
use Rattle.branch.specs.Questions.{asked}
use Rattle.branch.specs.Planning.{Problem, Answer, no_plan_lem2, cut_none, cut, optimum, result_of, answer_of, Promise}
use Rattle.model.specs.Model.{Job, Plan, cost_of_lem, Each, KeepsLives}
use Rattle.model.specs.Decisions.{WithinPlan}
use Rattle.hall_model.specs.Hall.{Hall, SomeWithout, hall_cost, KeepsAll, sum_of}
use Rattle.hall_model.specs.Agenda.{plain, agenda_of}
use Rattle.hall_model.specs.Decisions.{hall_decisions}
use Rattle.hall_model.specs.LowerBound.{hall_bound, hall_plan_at}

-- E14.4. "The walk goes by step": W4's two points below each point, "no first"
abbrev pub hall_tree : Hall → Tree
hall_tree hall = asked (hall_bound hall) (plain (agenda_of hall))

-- ---- what is planned

-- the hall plans, with E14.9's cost, E14.4's order of decisions, and the tree of the hall's nodes; within its decisions each line's plan is as one line's
abbrev pub hall_problem : Hall → Problem
hall_problem hall = record {
  Plan = List Plan;
  Keeps = KeepsAll hall;
  cost = hall_cost hall;
  decisions = hall_decisions hall;
  Within = Each WithinPlan hall.jobs;
  tree = hall_tree hall;
  root = hall_bound hall [];
  plan_at = hall_plan_at hall;
}

-- ---- the answer

-- what the hall planner says of an accepted hall, with the values that are printed: the cost is that "with calls included"
abbrev pub HallAnswer : Type 0
HallAnswer = Answer (List Plan)

-- the answer at the walk number `limit`: E14.6. "The host gives the walk number."
unfoldable pub hall_answer : Hall → ℕ → HallAnswer
hall_answer hall limit = answer_of (hall_problem hall) limit

-- ---- the promise

-- m is the least cost of a plan of the job that keeps its lives
pub record LeastCost (job : Job) (m : ℕ) : Type 0 where
  pub plan : Plan
  pub keeps : KeepsLives job plan
  pub states : cost_of_lem job plan ≡ m
  pub least : (other : Plan) → KeepsLives job other → m ≤ cost_of_lem job other

-- c is "the sum of the lines' own least costs"
abbrev pub SumOfLeast : Hall → ℕ → Type 0
SumOfLeast hall c = (ms : List ℕ) × Each LeastCost hall.jobs ms × (c ≡ sum_of ms)

-- E14.9. "With result 0, [..] if call is 0 the cost is the sum of the lines' own least costs"
abbrev pub FreeFor : Hall → HallAnswer → Type 0
FreeFor hall no_plan_lem2 = Unit {0}
FreeFor hall (cut_none n f) = Unit {0}
FreeFor hall (cut n f c p) = Unit {0}
FreeFor hall (optimum n f c p) = hall.call ≡ 0 → SumOfLeast hall c

-- what is promised of the answer to a hall at the walk number `limit`
pub record HallAnswerPromise (hall : Hall) (limit : ℕ) (a : HallAnswer) : Type 0 where
  -- E14.7, E14.8, E14.9. as of one job: 6, 7 and 0 by the count, nodes, floor, the best hall plan, any larger walk number
  pub planned : Promise (hall_problem hall) limit a
  -- E14.7. "The result is 6 if some line has no plan.", and only then
  pub says_6 : (result_of a ≡ 6) ↔ SomeWithout hall
  -- E14.9. "if call is 0 the cost is the sum of the lines' own least costs"
  pub free : FreeFor hall a
