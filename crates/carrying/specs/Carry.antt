-- What the call says of a job text and a log. R20. "Order: 8; then the job text [..]"; E12.5. "After the log's own line faults comes result 10 [..], then 11."; "A call that writes a job text puts no `result` line before it".
use Rattle.std.specs.Prelude.{ℕ, List}
use Rattle.lines.specs.Parser.{Outcome}
use Rattle.model.specs.Verdict.{Judgement, accepts, unkept, wrong_cost, judged_of}
use Rattle.job_grammar.specs.Grammar.{JobText, max_bytes, read_job_text}
use Rattle.job_grammar.specs.Rendering.{job_text_lem}
use Rattle.answers.specs.Said.{Said, plainly}
use Rattle.answers.specs.Texts.{on_text, on_texts}
use Rattle.judging.specs.Judge.{judge_reply}
use Rattle.carry.specs.Carry.{Log}
use Rattle.carry.specs.Answer.{until}
use Rattle.log_grammar.specs.Grammar.{LogText, log_of, read_log}
use Rattle.job_grammar.specs.Reading.{meant_job}
use Rattle.carry_texts.specs.Carried.{carried_text}

-- by the judgement on what was done: the new job's text, or 10 or 11 with the judge's lines
abbrev pub said_after : JobText → Log → Judgement → Said
said_after t log (accepts cost) = plainly 0 (job_text_lem (carried_text t log))
said_after t log (unkept part due) = judge_reply (unkept part due)
said_after t log (wrong_cost cost) = judge_reply (wrong_cost cost)

-- the judgement on what was done: on the job as far as the step
abbrev pub judged_done : JobText → Log → Judgement
judged_done t log = judged_of (until (meant_job t) log.step) log.cost log.plan

-- what is said of an accepted job text and of what a log says
abbrev pub carried_on_lem : JobText → LogText → Said
carried_on_lem t said = let log = log_of (meant_job t) said in said_after t log (judged_done t log)

-- once the job is read: the log against it
abbrev pub on_log : List ℕ → JobText → Outcome LogText → Said
on_log log t = on_text 2 log (carried_on_lem t)

-- by what the job text says
abbrev pub on_job : List ℕ → List ℕ → Outcome JobText → Said
on_job job log = on_texts job log (λ t. read_log (meant_job t) log) carried_on_lem

-- the answer where there is room for it
unfoldable pub carry_said : List ℕ → List ℕ → Said
carry_said job log = on_job job log (read_job_text job)

-- E11. "a call that writes one needs that much output, else 8": as much as a job text may have
abbrev pub carry_room : ℕ
carry_room = max_bytes
