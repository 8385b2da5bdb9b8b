-- What the foreman's call says of two texts. E9.2. "A call takes a job and a plan text, of which only the stops count, and refuses faults in either as the judge does."
use Rattle.std.specs.Prelude.{ℕ, List, ◌++◌}
use Rattle.lines.specs.Text.{line_of}
use Rattle.lines.specs.Parser.{Outcome}
use Rattle.model.specs.Model.{Plan}
use Rattle.model.specs.Limits.{answer_room}
use Rattle.job_grammar.specs.Grammar.{Given, read_job_lem}
use Rattle.plan_grammar.specs.Grammar.{Stated, read_plan_lem}
use Rattle.plan_printing.specs.Printed.{printed_lines}
use Rattle.answers.specs.Said.{Said, plainly}
use Rattle.answers.specs.Texts.{on_text, on_texts}
use Rattle.latest.specs.Latest.{LatestAnswer, unserved, serves, latest_number, latest_answer_of}

-- E9.3. "`result` 0 and the plan lines", E11. with the cost at the low ends before them where the job text has a `low` line
unfoldable pub served_lines : Given → ℕ → Plan → List ℕ
served_lines given cost plan = line_of "result=" 0 ++ printed_lines given cost plan

-- the lines of an answer to a job text; O2. "Number 6: `result`."
abbrev pub latest_lines : Given → LatestAnswer → List ℕ
latest_lines given unserved = line_of "result=" 6
latest_lines given (serves cost plan) = served_lines given cost plan

-- what is handed over and written for an answer to a job text: its number, and its lines
abbrev pub latest_reply : Given → LatestAnswer → Said
latest_reply given a = plainly (latest_number a) (latest_lines given a)

-- what is said of an accepted job text and of the plan that is stated, "of which only the stops count"
abbrev pub served : Given → Stated → Said
served given stated = latest_reply given (latest_answer_of given.job stated.plan.stops)

-- once the job text is read: the plan text against it
abbrev pub on_plan : List ℕ → Given → Outcome Stated → Said
on_plan plan given = on_text 2 plan (served given)

-- by what the job text reads as
abbrev pub on_job : List ℕ → List ℕ → Outcome Given → Said
on_job job plan = on_texts job plan (λ given. read_plan_lem given.job plan) served

-- the answer where there is room for it
unfoldable pub latest_said : List ℕ → List ℕ → Said
latest_said job plan = on_job job plan (read_job_lem job)

-- X8. "The lent output has at least 16,384."
abbrev pub latest_room : ℕ
latest_room = answer_room
