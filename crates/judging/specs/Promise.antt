-- What the judge promises, over the two texts, the room lent and the answer: the second demand, D5.
use Rattle.std.specs.Prelude.{ℕ, ◌≤◌, ◌<◌, ◌≡◌, List, ◌↔◌}
use Rattle.lines.specs.Parser.{accepted, refused}
use Rattle.model.specs.Model.{Job, Plan, KeepsLives, cost_of_lem}
use Rattle.model.specs.Verdict.{LowestUnkept}
use Rattle.model.specs.Due.{DueIs}
use Rattle.job_grammar.specs.Grammar.{Given, read_job_lem}
use Rattle.plan_grammar.specs.Grammar.{Stated, read_plan_lem}
use Rattle.answers.specs.Said.{Said, Refuses}
use Rattle.judging.specs.Judge.{cost_lines, unkept_lines, judge_room}

-- X9. "the job is accepted, the plan text has no fault": what the two texts say
pub record PlanReading (job plan : List ℕ) : Type 0 where
  pub given : Given
  pub stated : Stated
  pub job_read : read_job_lem job ≡ accepted given
  pub plan_read : read_plan_lem given.job plan ≡ accepted stated

module _ {job plan : List ℕ} where
  -- D5. "the plan keeps every life"
  abbrev pub Keeps : PlanReading job plan → Type 0
  Keeps r = KeepsLives r.given.job r.stated.plan

  -- what the plan costs
  abbrev pub true_cost : PlanReading job plan → ℕ
  true_cost r = cost_of_lem r.given.job r.stated.plan

  -- D5. "and states its true cost"
  abbrev pub States : PlanReading job plan → Type 0
  States r = r.stated.cost ≡ true_cost r

-- R10. the lowest part that is not kept, with its first gap that is too long, and its due step, which is "the change before, or R − L, plus L"
abbrev pub Overdue : Job → Plan → ℕ → ℕ → Type 0
Overdue job plan part due = (late : LowestUnkept job plan part due) × DueIs job plan part due late

-- what is promised of the answer s to the two texts, where the output has `room` bytes
pub record JudgePromise (job plan : List ℕ) (room : ℕ) (s : Said) : Type 0 where
  -- R8. "8: the output is shorter than 16,384 bytes."
  pub says_8 : (s.result ≡ 8) ↔ (room < judge_room)
  -- D5. "The judge accepts exactly if the job is accepted, the plan text has no fault, and the plan keeps every life and states its true cost."
  pub says_0 : (s.result ≡ 0) ↔ ((judge_room ≤ room) × ((r : PlanReading job plan) × (Keeps r × States r)))
  -- R10. "10: a part is not kept."
  pub says_10 : (s.result ≡ 10) ↔ ((judge_room ≤ room) × ((r : PlanReading job plan) × (Keeps r → ⊥)))
  -- R11. "11: all kept, but `cost` is not the plan's cost."
  pub says_11 : (s.result ≡ 11) ↔ ((judge_room ≤ room) × ((r : PlanReading job plan) × (Keeps r × (States r → ⊥))))
  -- what is written with them
  pub writes_0 : (r : PlanReading job plan) → s.result ≡ 0 → s.bytes ≡ cost_lines 0 (true_cost r)
  -- R10. "Lowest such part, and its due step: at its first gap that is too long, the last step at which a change would still have kept it (the change before, or R − L, plus L)."
  pub writes_10 : (r : PlanReading job plan) → s.result ≡ 10 → (part : ℕ) × ((due : ℕ) × (Overdue r.given.job r.stated.plan part due × (s.bytes ≡ unkept_lines part due)))
  pub writes_11 : (r : PlanReading job plan) → s.result ≡ 11 → s.bytes ≡ cost_lines 11 (true_cost r)
  -- D4. the faults of the two texts, the job's first
  pub job_fault : judge_room ≤ room → (number line : ℕ) → read_job_lem job ≡ refused number line → Refuses 1 job number line s
  pub plan_fault : judge_room ≤ room → (given : Given) → read_job_lem job ≡ accepted given → (number line : ℕ) → read_plan_lem given.job plan ≡ refused number line
      → Refuses 2 plan number line s
