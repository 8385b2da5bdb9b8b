-- E14.8. What is printed of a hall's answer: "prints `result`, `nodes`, `floor` and, if there is a plan, `cost` with calls included and then each line's plan lines in order, without `costlow`".
use Rattle.std.specs.Prelude.{ℕ, List, [], ◌∷◌, ◌++◌}
use Rattle.lines.specs.Text.{line_of, texts}
use Rattle.model.specs.Model.{Job, Plan, cost_of_lem}
use Rattle.plan_grammar.specs.Rendering.{plan_lines_of}
use Rattle.branch.specs.Planning.{no_plan_lem2, cut_none, cut, optimum, result_of}
use Rattle.hall_model.specs.Hall.{Hall}
use Rattle.hall_model.specs.Promise.{HallAnswer}
use Rattle.answers.specs.Said.{Said, plainly}
use Rattle.planning.specs.Plan.{search_lines}

-- a line of the hall, with its plan
pub record LinePlan : Type 0 where
  pub job : Job
  pub plan : Plan

-- each line with its plan, in order
abbrev pub line_plans : List Job → List Plan → List LinePlan
line_plans [] plans = []
line_plans (job ∷ jobs) [] = []
line_plans (job ∷ jobs) (plan ∷ plans) = record { job = job; plan = plan } ∷ line_plans jobs plans

-- "each line's plan lines": with what the plan costs its line, without calls, and with no cost at the low ends
abbrev pub own_lines : LinePlan → List ℕ
own_lines l = plan_lines_of l.job (cost_of_lem l.job l.plan) l.plan

-- "`cost` with calls included and then each line's plan lines in order"
unfoldable pub plans_lines : List Job → ℕ → List Plan → List ℕ
plans_lines jobs cost plans = line_of "cost=" cost ++ texts own_lines (line_plans jobs plans)

-- the lines of a search with plans
unfoldable pub hall_planned_lines : ℕ → ℕ → ℕ → List Job → ℕ → List Plan → List ℕ
hall_planned_lines number nodes floor jobs cost plans = search_lines number nodes floor ++ plans_lines jobs cost plans

-- the lines of an answer to a hall; O2. "Number 6: `result`."
abbrev pub hall_lines : Hall → HallAnswer → List ℕ
hall_lines hall no_plan_lem2 = line_of "result=" 6
hall_lines hall (cut_none nodes floor) = search_lines 7 nodes floor
hall_lines hall (cut nodes floor cost plans) = hall_planned_lines 7 nodes floor hall.jobs cost plans
hall_lines hall (optimum nodes floor cost plans) = hall_planned_lines 0 nodes floor hall.jobs cost plans

-- what is handed over and written for an answer to a hall: its number, and its lines
abbrev pub hall_reply : Hall → HallAnswer → Said
hall_reply hall a = plainly (result_of a) (hall_lines hall a)
