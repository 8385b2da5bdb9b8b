-- What the planner says of a job text and the walk number of the call. R20. "Order: 8; then the job text [..]; then 6 before 7".
use Rattle.std.specs.Prelude.{ℕ, min, List, ◌++◌}
use Rattle.lines.specs.Text.{line_of}
use Rattle.lines.specs.Parser.{Outcome, accepted, refused}
use Rattle.model.specs.Limits.{most_walk}
use Rattle.model.specs.Model.{Plan}
use Rattle.model.specs.Limits.{answer_room}
use Rattle.model.specs.Promise.{PlannerAnswer, no_plan_lem2, cut_none, cut, optimum, result_of, answer_of}
use Rattle.job_grammar.specs.Grammar.{Given, read_job_lem}
use Rattle.plan_printing.specs.Printed.{printed_lines}
use Rattle.answers.specs.Said.{Said, plainly, refusal}

-- O3. "Planner 0 and 7: `result`, `nodes` (points walked), `floor`, then the plan lines; with 7 and no plan it ends after `floor`."
unfoldable pub search_lines : ℕ → ℕ → ℕ → List ℕ
search_lines number nodes floor = line_of "result=" number ++ line_of "nodes=" nodes ++ line_of "floor=" floor

-- with a plan: "then the plan lines", E11. with the cost at the low ends before them where the job text has a `low` line
unfoldable pub planned_lines : ℕ → ℕ → ℕ → Given → ℕ → Plan → List ℕ
planned_lines number nodes floor given cost plan = search_lines number nodes floor ++ printed_lines given cost plan

-- the lines of an answer to a job text; O2. "Number 6: `result`."
abbrev pub planner_lines : Given → PlannerAnswer → List ℕ
planner_lines given no_plan_lem2 = line_of "result=" 6
planner_lines given (cut_none nodes floor) = search_lines 7 nodes floor
planner_lines given (cut nodes floor cost plan) = planned_lines 7 nodes floor given cost plan
planner_lines given (optimum nodes floor cost plan) = planned_lines 0 nodes floor given cost plan

-- what is handed over and written for an answer to a job text: its number, and its lines
abbrev pub planner_reply : Given → PlannerAnswer → Said
planner_reply given a = plainly (result_of a) (planner_lines given a)

-- E10. the walk number that the host gives with the call: "a number above 4000000000 counts as 4000000000"
abbrev pub walk_number_lem : ℕ → ℕ
walk_number_lem walk = min walk most_walk

-- by what the job text reads as: the answer at the walk number of the call, or the fault
abbrev pub on_job : List ℕ → ℕ → Outcome Given → Said
on_job text walk (accepted given) = planner_reply given (answer_of given.job (walk_number_lem walk))
on_job text walk (refused number line) = refusal 1 text number line

-- the planner's answer where there is room for it
unfoldable pub plan_said : List ℕ → ℕ → Said
plan_said text walk = on_job text walk (read_job_lem text)

-- X8. "The lent output has at least 16,384."
abbrev pub plan_room : ℕ
plan_room = answer_room
