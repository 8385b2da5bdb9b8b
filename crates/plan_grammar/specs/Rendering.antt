-- O3. The text of a plan: "the plan lines" that the planner prints.
use Rattle.std.specs.Prelude.{ℕ, ◌+◌, List, [], ◌++◌, map, Bool, false, length, get_or}
use Rattle.lines.specs.Text.{line_of, texts}
use Rattle.base.specs.Chosen.{chosen}
use Rattle.model.specs.Model.{Opening, Job, Plan}
use Rattle.plan_grammar.specs.Grammar.{Visit}

-- ---- the lines of visits; the counts are the lists' lengths

-- X4. the lines `stop` and `count`, and a line `part` for each part changed there
unfoldable pub visit_text : Visit → List ℕ
visit_text v = line_of "stop=" v.step ++ line_of "count=" (length v.parts) ++ texts (line_of "part=") v.parts

-- X4. the lines `cost` and `stops`, and those of each stop
unfoldable pub plan_text_lem : ℕ → List Visit → List ℕ
plan_text_lem cost vs = line_of "cost=" cost ++ line_of "stops=" (length vs) ++ texts visit_text vs

-- ---- the visits of a plan

-- part k + 1 is changed at opening i
abbrev pub is_changed_lem : Plan → ℕ → ℕ → Bool
is_changed_lem plan i k = get_or (get_or plan.changes k []) i false

-- the numbers of the parts changed at opening i
abbrev pub parts_at : Plan → ℕ → List ℕ
parts_at plan i = chosen (is_changed_lem plan i) (λ k. k + 1) (length plan.changes)

-- the step of opening i
abbrev pub step_at : Job → ℕ → ℕ
step_at job i = get_or (map (λ (o : Opening). o.step) job.openings) i 0

-- what the plan does at opening i, if it stops there
abbrev pub visit_at : Job → Plan → ℕ → Visit
visit_at job plan i = record { step = step_at job i; parts = parts_at plan i }

-- a visit for each stop, in the openings' order
unfoldable pub visits_of : Job → Plan → List Visit
visits_of job plan = chosen (λ i. get_or plan.stops i false) (visit_at job plan) (length job.openings)

-- the lines of a job's plan with its cost
unfoldable pub plan_lines_of : Job → ℕ → Plan → List ℕ
plan_lines_of job cost plan = plan_text_lem cost (visits_of job plan)
