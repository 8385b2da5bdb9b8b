-- What the calls said before E7. It stays for one theorem alone, `AsBefore`: no code and no other promise rests on it.
-- What E7 left as it was is cited: the lines of an answer, refusals, the verdict on the lives, the count; E4's answer and a plan's cost without removals (`model/Unheld`).
use Rattle.std.specs.Prelude.{ℕ, false, List}
use Rattle.lines.specs.Parser.{Outcome, accepted, refused}
use Rattle.model.specs.Model.{Job}
use Rattle.model.specs.Unheld.{plain_answer, plain_cost}
use Rattle.model.specs.Verdict.{judged, verdict_of_lem}
use Rattle.longest_walk.specs.Count.{open_count}
use Rattle.job_grammar.specs.Grammar as today
use Rattle.plan_grammar.specs.Grammar.{Stated}
use Rattle.answers.specs.Said.{Said, refusal}
use Rattle.planning.specs.Plan as planning
use Rattle.judging.specs.Judge as judging
use Rattle.counting.specs.Count.{count_given, refusal_of}
use Rattle.counting.specs.declared.Counted.{Counted}
use Rattle.before_holders.specs.Texts.{Given, read_job_lem, read_plan_lem}

-- ---- the planner

-- E11. what a job without pairs means today
abbrev pub unbanded : Job → today.Given
unbanded job = record { job = job; low = job; banded = false }

-- by what the job text read as: E4's answer at its walk number, or its fault
abbrev pub plan_on : List ℕ → Outcome Given → Said
plan_on text (accepted given) = planning.planner_reply (unbanded given.job) (plain_answer given.job given.walk)
plan_on text (refused number line) = refusal 1 text number line

-- what the planner said of a job text where there was room
unfoldable pub plan_said : List ℕ → Said
plan_said text = plan_on text (read_job_lem text)

-- X8. "The lent output has at least 16,384."
abbrev pub plan_room : ℕ
plan_room = 16384

-- ---- the judge

-- once the job was read: the plan text against it, whose cost had no removals
abbrev pub judge_plan_lem : List ℕ → Job → Outcome Stated → Said
judge_plan_lem plan job (accepted stated) = judging.judge_reply (judged stated.cost (plain_cost job stated.plan) (verdict_of_lem job stated.plan))
judge_plan_lem plan job (refused number line) = refusal 2 plan number line

-- by what the job text read as: its fault came before any of the plan's
abbrev pub judge_on : List ℕ → List ℕ → Outcome Given → Said
judge_on job plan (accepted given) = judge_plan_lem plan given.job (read_plan_lem given.job plan)
judge_on job plan (refused number line) = refusal 1 job number line

-- what the judge said of the two texts where there was room
unfoldable pub judge_said : List ℕ → List ℕ → Said
judge_said job plan = judge_on job plan (read_job_lem job)

-- X8. the judge needed as much
abbrev pub judge_room : ℕ
judge_room = 16384

-- ---- the count

-- by what the job text read as: E6's count of any job, or its fault
abbrev pub count_on : List ℕ → Outcome Given → Counted
count_on text (accepted given) = count_given (open_count given.job)
count_on text (refused number line) = refusal_of text number line

-- what the count handed over for a job text
unfoldable pub count_said : List ℕ → Counted
count_said text = count_on text (read_job_lem text)
