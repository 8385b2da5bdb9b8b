-- What the planner promises, over the job text, the walk number of the call, the room lent and the answer: the second and the third demand, D5 and D6.
use Rattle.std.specs.Prelude.{ℕ, ◌≤◌, ◌<◌, ◌≡◌, List, ◌++◌, ◌↔◌}
use Rattle.lines.specs.Parser.{accepted, refused}
use Rattle.model.specs.Limits.{most_walk}
use Rattle.model.specs.Model.{Plan, HasPlan}
use Rattle.model.specs.Promise.{PlannerAnswer, no_plan_lem2, cut_none, cut, optimum, whole_count}
use Rattle.model.specs.Promise as model
use Rattle.job_grammar.specs.Grammar.{Given, read_job_lem}
use Rattle.job_grammar.specs.Reading.{JobReading, job_in}
use Rattle.plan_grammar.specs.Grammar.{read_plan_lem}
use Rattle.answers.specs.Said.{Said, Refuses, plainly, lent}
use Rattle.judging.specs.Judge.{cost_lines, judge_said}
use Rattle.plan_printing.specs.Printed.{low_lines}
use Rattle.planning.specs.Plan.{search_lines, planner_reply, walk_number_lem, plan_said, plan_room}

-- what is written behind these lines, E11. and behind the cost at the low ends where the job text has a `low` line, is a plan text, which read against the job says this plan and this cost, and which the judge accepts with it
pub record PrintsBehind (text : List ℕ) (given : Given) (front : List ℕ) (s : Said) (cost : ℕ) (plan : Plan) : Type 0 where
  pub lines : List ℕ
  pub written : s.bytes ≡ front ++ (low_lines given plan ++ lines)
  pub reads_back : read_plan_lem given.job lines ≡ accepted (record { cost = cost; plan = plan })
  pub judged : judge_said text lines ≡ plainly 0 (cost_lines 0 cost)

-- O3, D6. and so behind `floor`
abbrev pub PrintsPlan : List ℕ → Given → Said → ℕ → ℕ → ℕ → Plan → Type 0
PrintsPlan text given s nodes floor cost plan = PrintsBehind text given (search_lines s.result nodes floor) s cost plan

-- of an answer with a plan; without one nothing stands behind `floor`
abbrev pub PrintsAnswer : List ℕ → Given → Said → PlannerAnswer → Type 0
PrintsAnswer text given s no_plan_lem2 = Unit {0}
PrintsAnswer text given s (cut_none nodes floor) = s.bytes ≡ search_lines 7 nodes floor
PrintsAnswer text given s (cut nodes floor cost plan) = PrintsPlan text given s nodes floor cost plan
PrintsAnswer text given s (optimum nodes floor cost plan) = PrintsPlan text given s nodes floor cost plan

-- D6. the answer s is written and handed over for an answer of the model that keeps every clause of the model's promise:
-- 6, 7 and 0 exactly when they are due, nodes, floor, and of a plan that it keeps every life, states its true cost, is least over all plans
-- (with 7: over the nodes walked), is the tie rule's choice and has no stop without a change; and the plan printed is that plan
pub record ReportsAnswer (text : List ℕ) (walk : ℕ) (given : Given) (s : Said) : Type 0 where
  pub answer : PlannerAnswer
  pub promise : model.Promise given.job (walk_number_lem walk) answer
  pub says : s ≡ planner_reply given answer
  pub prints : PrintsAnswer text given s answer

-- what is promised of the answer s to a text and a walk number, where the output has `room` bytes
pub record PlanPromise (text : List ℕ) (walk room : ℕ) (s : Said) : Type 0 where
  -- R8. "8: the output is shorter than 16,384 bytes."
  pub says_8 : (s.result ≡ 8) ↔ (room < plan_room)
  -- R6. "6: no plan keeps the lives": exactly if the job is accepted and has none
  pub says_6 : (s.result ≡ 6) ↔ ((plan_room ≤ room) × ((r : JobReading text) × (HasPlan (job_in r) → ⊥)))
  -- R7, D6. 7 "exactly when the job is accepted, has a plan and its whole walk has more points"
  pub says_7 : (s.result ≡ 7) ↔ ((plan_room ≤ room) × ((r : JobReading text) × (HasPlan (job_in r) × (walk_number_lem walk < whole_count (job_in r)))))
  -- D6. "Otherwise result 0"
  pub says_0 : (s.result ≡ 0) ↔ ((plan_room ≤ room) × ((r : JobReading text) × (HasPlan (job_in r) × (whole_count (job_in r) ≤ walk_number_lem walk))))
  -- what is written with them; D7. with 0 the cheapest of all plans (`ReportsAnswer .promise`: branch's `Best`, among `Any`)
  pub answers : plan_room ≤ room → (r : JobReading text) → ReportsAnswer text walk r.given s
  -- D4. a fault of the job text
  pub job_fault : plan_room ≤ room → (number line : ℕ) → read_job_lem text ≡ refused number line → Refuses 1 text number line s
  -- D6. "any larger allowed walk number gives the same bytes": so does any call with a larger one
  pub any_walk : s.result ≡ 0 → (other : ℕ) → walk ≤ other → lent plan_room room (plan_said text other) ≡ s
  -- E10. "a number above 4000000000 counts as 4000000000"
  pub above : most_walk ≤ walk → lent plan_room room (plan_said text most_walk) ≡ s
