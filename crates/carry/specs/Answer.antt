-- E12.5. The call's answer to an accepted job and a log without line faults: the new job, or 10 or 11 as the judge says them.
use Rattle.std.specs.Prelude.{ℕ, ◌-◌}
use Rattle.model.specs.Model.{Job}
use Rattle.model.specs.Verdict.{Judgement, accepts, unkept, wrong_cost, judged_of}
use Rattle.carry.specs.Carry.{Log, carried}

-- the job as far as the step, which stands where T + 1 stood: judged so, "by that step" is one more gap
abbrev pub until : Job → ℕ → Job
until job step = record { horizon = step - 1; idles = job.idles; openings = job.openings; parts = job.parts }

-- what the call says
pub data CarryAnswer : Type 0 where
  goes_on : Job → CarryAnswer  -- the new job's text, with no `result` line
  refused : Judgement → CarryAnswer  -- 10 or 11, with the judge's lines

-- the result number: none is printed before a job text, and the host is handed 0
abbrev pub carry_number : CarryAnswer → ℕ
carry_number (goes_on next) = 0
carry_number (refused (accepts cost)) = 0
carry_number (refused (unkept part due)) = 10
carry_number (refused (wrong_cost cost)) = 11

-- by the judgement on what was done
abbrev pub carry_answered : Job → Judgement → CarryAnswer
carry_answered next (accepts cost) = goes_on next
carry_answered next (unkept part due) = refused (unkept part due)
carry_answered next (wrong_cost cost) = refused (wrong_cost cost)

-- "After the log's own line faults comes result 10 if a part had used more than its life by that step or between changes, then 11."
abbrev pub answer_to : Job → Log → CarryAnswer
answer_to job log = carry_answered (carried job log) (judged_of (until job log.step) log.cost log.plan)
