-- What the call promises, over the job text, the log, the room lent and the answer: E12.1, E12.2, E12.5.
use Rattle.std.specs.Prelude.{ℕ, ◌+◌, ◌≤◌, ◌<◌, ◌≡◌, List, ◌↔◌}
use Rattle.lines.specs.Parser.{accepted, refused}
use Rattle.model.specs.Model.{Job, Plan, KeepsLives, cost_of_lem}
use Rattle.model.specs.Promise.{optimum, answer_of}
use Rattle.job_grammar.specs.Grammar.{JobText, Given, meant, read_job_text, read_job_lem}
use Rattle.job_grammar.specs.Rendering.{job_text_lem}
use Rattle.answers.specs.Said.{Said, Refuses}
use Rattle.judging.specs.Judge.{cost_lines, unkept_lines}
use Rattle.carry.specs.Carry.{Log, AllLast, Accepts, carried}
use Rattle.carry.specs.Start.{Starts, rest_of, Remaining}
use Rattle.carry.specs.Promise.{LowestUsedUp}
use Rattle.log_grammar.specs.Grammar.{LogText, log_of, read_log}
use Rattle.job_grammar.specs.Reading.{meant_job}
use Rattle.carry_texts.specs.Carried.{carried_text}
use Rattle.carrying.specs.Carry.{carry_room}

-- the job is accepted, and the log has no line fault: what the two texts say
pub record LogReading (job log : List ℕ) : Type 0 where
  pub text : JobText
  pub said : LogText
  pub job_read : read_job_text job ≡ accepted text
  pub log_read : read_log (meant_job text) log ≡ accepted said

module _ {job log : List ℕ} where
  -- the job, at the high ends of its prices, and what was done
  abbrev pub job_in : LogReading job log → Job
  job_in r = meant_job r.text

  abbrev pub done_in : LogReading job log → Log
  done_in r = log_of (job_in r) r.said

  -- no part had used more than its life by the log's step or between changes
  abbrev pub Last : LogReading job log → Type 0
  Last r = AllLast (job_in r) (done_in r)

  -- what was done costs
  abbrev pub true_cost : LogReading job log → ℕ
  true_cost r = cost_of_lem (job_in r) (done_in r).plan

-- what a text `next` is worth that was written for a job text and an accepted log
pub record CarriedOn (job : JobText) (log : Log) (next : List ℕ) : Type 0 where
  -- E12.2. it reads back as exactly the new job, at the high ends of its prices and at the low ends
  pub given : Given
  pub reads_back : read_job_lem next ≡ accepted given
  pub means : given.job ≡ carried (meant_job job) log
  pub low_means : given.low ≡ carried (meant job).low log
  -- a plan of the old job that begins with the log keeps the lives exactly if its rest keeps the new job's, and costs the log's cost more
  pub keeps : (plan : Plan) → Starts (meant_job job) log plan → KeepsLives (meant_job job) plan ↔ KeepsLives (carried (meant_job job) log) (rest_of (meant_job job) log plan)
  pub costs : (plan : Plan) → Starts (meant_job job) log plan → cost_of_lem (meant_job job) plan ≡ log.cost + cost_of_lem (carried (meant_job job) log) (rest_of (meant_job job) log plan)
  -- E12.6. "If the log is the start of a plan the planner printed with 0, the least cost of the new job is that plan's remaining cost."
  pub remains : (limit nodes floor cost : ℕ) (plan : Plan) → answer_of (meant_job job) limit ≡ optimum nodes floor cost plan → Starts (meant_job job) log plan → Remaining (meant_job job) log cost plan

-- what is promised of the answer s to the two texts, where the output has `room` bytes
pub record CarryPromise (job log : List ℕ) (room : ℕ) (s : Said) : Type 0 where
  -- R8, E11. "a call that writes one needs that much output, else 8"
  pub says_8 : (s.result ≡ 8) ↔ (room < carry_room)
  -- neither 10 nor 11
  pub says_0 : (s.result ≡ 0) ↔ ((carry_room ≤ room) × ((r : LogReading job log) × Accepts (job_in r) (done_in r)))
  -- E12.5. "result 10 if a part had used more than its life by that step or between changes"
  pub says_10 : (s.result ≡ 10) ↔ ((carry_room ≤ room) × ((r : LogReading job log) × (Last r → ⊥)))
  -- E12.5. "then 11"
  pub says_11 : (s.result ≡ 11) ↔ ((carry_room ≤ room) × ((r : LogReading job log) × (Last r × (r.said.stated.cost ≡ true_cost r → ⊥))))
  -- E12.2. "The result is a new job text", with no `result` line
  pub writes_0 : (r : LogReading job log) → s.result ≡ 0 → s.bytes ≡ job_text_lem (carried_text r.text (done_in r))
  -- and what that text is worth
  pub goes_on : (r : LogReading job log) → s.result ≡ 0 → CarriedOn r.text (done_in r) s.bytes
  -- R10. "Lowest such part, and its due step"
  pub writes_10 : (r : LogReading job log) → s.result ≡ 10 → (part due : ℕ) × LowestUsedUp (job_in r) (done_in r) part due × (s.bytes ≡ unkept_lines part due)
  pub writes_11 : (r : LogReading job log) → s.result ≡ 11 → s.bytes ≡ cost_lines 11 (true_cost r)
  -- D4. the faults of the two texts, the job's first
  pub job_fault : carry_room ≤ room → (number line : ℕ) → read_job_text job ≡ refused number line → Refuses 1 job number line s
  pub log_fault : carry_room ≤ room → (t : JobText) → read_job_text job ≡ accepted t → (number line : ℕ) → read_log (meant_job t) log ≡ refused number line → Refuses 2 log number line s
