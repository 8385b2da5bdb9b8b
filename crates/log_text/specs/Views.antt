-- The code's structs in the terms of the log's grammar.
use Rattle.std.specs.Prelude.{ℕ, Result}
use Rattle.lines.specs.Parser.{Outcome}
use Rattle.lines.specs.Reads as reads
use Rattle.lines.specs.Reads.{seen}
use Rattle.lines.specs.declared.fault.Fault.{Fault}
use Rattle.jobs.specs.declared.Job.{Job}
use Rattle.jobs.specs.declared.Plan.{Plan}
use Rattle.jobs.specs.Views.{job_of, model_plan}
use Rattle.carry.specs.Carry.{passed}
use Rattle.log_grammar.specs.Grammar as grammar
use Rattle.log_text.specs.declared.whole.LogText.{LogText}

-- a step, a cost and a plan over the openings that are past by the step
abbrev pub log_for : Job → ℕ → ℕ → Plan → grammar.LogText
log_for job step cost p = record { step = step; stated = record { cost = cost; plan = model_plan (passed (job_of job) step) job.part_count p } }

-- what a log says
abbrev pub said : Job → LogText → grammar.LogText
said job t = log_for job t.step t.cost t.plan

-- the answer r to a text: what it says, or its fault
abbrev pub outcome : Job → Result LogText Fault → Outcome grammar.LogText
outcome job r = reads.outcome (seen (said job) r)
