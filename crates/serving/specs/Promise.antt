-- What the call promises, over the two texts, the room lent and the answer: E9.2 to E9.5.
use Rattle.std.specs.Prelude.{ℕ, ◌≤◌, ◌<◌, ◌≡◌, Bool, List, ◌++◌, ◌↔◌}
use Rattle.lines.specs.Text.{line_of}
use Rattle.lines.specs.Parser.{accepted, refused}
use Rattle.model.specs.Model.{Job, Plan}
use Rattle.job_grammar.specs.Grammar.{Given, read_job_lem}
use Rattle.plan_grammar.specs.Grammar.{read_plan_lem}
use Rattle.answers.specs.Said.{Said, plainly, lent}
use Rattle.judging.specs.Judge.{judge_said, judge_room, cost_lines}
use Rattle.judging.specs.Promise.{PlanReading}
use Rattle.latest.specs.Promise.{CanKeep, LatestPlan}
use Rattle.plan_printing.specs.Printed.{low_lines}
use Rattle.serving.specs.Serve.{latest_room}

module _ {job plan : List ℕ} where
  -- E9.2. the job, and the plan text's stops, which are all of it that counts
  abbrev pub job_in : PlanReading job plan → Job
  job_in r = r.given.job

  abbrev pub stated_stops : PlanReading job plan → List Bool
  stated_stops r = r.stated.plan.stops

  -- E9.3. some changes at these stops keep every part
  abbrev pub Serve : PlanReading job plan → Type 0
  Serve r = CanKeep (job_in r) (stated_stops r)

-- what is written with 0 for a job text and its stops: a plan with its cost, which keeps the promise of E9.3 to E9.5, E11. with its cost at the low ends before it where the job text has a `low` line; its lines are read back as that
-- plan with its cost, and the judge says 0 of them
pub record PrintsLatest (text : List ℕ) (given : Given) (stops : List Bool) (s : Said) : Type 0 where
  pub cost : ℕ
  pub plan : Plan
  pub latest : LatestPlan given.job stops cost plan
  pub lines : List ℕ
  pub writes : s.bytes ≡ line_of "result=" 0 ++ (low_lines given plan ++ lines)
  pub reads_back : read_plan_lem given.job lines ≡ accepted (record { cost = cost; plan = plan })
  pub judged : judge_said text lines ≡ plainly 0 (cost_lines 0 cost)

-- what is promised of the answer s to the two texts, where the output has `room` bytes
pub record ServePromise (job plan : List ℕ) (room : ℕ) (s : Said) : Type 0 where
  -- R8. "8: the output is shorter than 16,384 bytes."
  pub says_8 : (s.result ≡ 8) ↔ (room < latest_room)
  -- E9.3. "It answers 6 if the stops can't keep some part": exactly if no change sets at these stops keep every part
  pub says_6 : (s.result ≡ 6) ↔ ((latest_room ≤ room) × ((r : PlanReading job plan) × (Serve r → ⊥)))
  -- E9.3. "else `result` 0"
  pub says_0 : (s.result ≡ 0) ↔ ((latest_room ≤ room) × ((r : PlanReading job plan) × Serve r))
  -- what is written with them
  pub writes_6 : s.result ≡ 6 → s.bytes ≡ line_of "result=" 6
  pub writes_0 : (r : PlanReading job plan) → s.result ≡ 0 → PrintsLatest job r.given (stated_stops r) s
  -- E9.2. "refuses faults in either as the judge does": with the judge's answer, every number and byte, whatever the room
  pub job_fault : (number line : ℕ) → read_job_lem job ≡ refused number line → s ≡ lent judge_room room (judge_said job plan)
  pub plan_fault : (given : Given) → read_job_lem job ≡ accepted given → (number line : ℕ) → read_plan_lem given.job plan ≡ refused number line → s ≡ lent judge_room room (judge_said job plan)
