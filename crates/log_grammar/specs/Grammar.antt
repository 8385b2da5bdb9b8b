-- E12.1. The log's lines, read against a job: "a line `step` 1..T − 2 (else 3) and then plan lines, never left out (else 2), with no stop after that step (else 9)".
use Rattle.std.specs.Prelude.{ℕ, ◌-◌, Bool, false, List, ◌++◌, map, length, take, replicate}
use Rattle.lines.specs.Parser.{Parser, ◌>>=◌, return, row, Outcome, read_text}
use Rattle.model.specs.Model.{Part, Job, Plan}
use Rattle.plan_grammar.specs.Grammar.{Stated, plan_lines, max_bytes}
use Rattle.carry.specs.Carry.{Log, passed}

-- a part with the prices of the first n openings
abbrev pub part_to : ℕ → Part → Part
part_to n part = record { life = part.life; left = part.left; removal = part.removal; holders = part.holders; prices = take n part.prices }

-- the job with its first n openings alone
abbrev pub job_to : ℕ → Job → Job
job_to n job = record { horizon = job.horizon; idles = job.idles; openings = take n job.openings; parts = map (part_to n) job.parts }

-- the job with its openings up to the step alone: "no stop after that step (else 9)" is that no other step is an opening
abbrev pub past_job_lem : Job → ℕ → Job
past_job_lem job step = job_to (passed job step) job

-- a set of the first openings, as a set of all n
abbrev pub padded : ℕ → List Bool → List Bool
padded n cs = cs ++ replicate (n - length cs) false

-- the plan over all n openings that is a plan over the first ones
abbrev pub padded_plan : ℕ → Plan → Plan
padded_plan n plan = record { stops = padded n plan.stops; changes = map (padded n) plan.changes }

-- what a log's text says: the line `step`, and the plan lines, read against the job with its openings up to the step alone
pub record LogText : Type 0 where
  pub step : ℕ
  pub stated : Stated

-- the log that it means, over all of the job's openings
abbrev pub log_of : Job → LogText → Log
log_of job t = record { step = t.step; cost = t.stated.cost; plan = padded_plan (length job.openings) t.stated.plan }

-- the lines of a log; X4. "the plan lines"
unfoldable pub log_lines : Job → Parser LogText
log_lines job = do
  step ← row "step=" 1 (job.horizon - 2)
  stated ← plan_lines (past_job_lem job step)
  return (record { step = step; stated = stated })

-- the whole text: what it says, or its first fault's number and line; an empty one lacks its first line, and is 2
abbrev pub read_log : Job → List ℕ → Outcome LogText
read_log job s = read_text max_bytes (log_lines job) s
