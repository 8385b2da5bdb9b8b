-- What the judge says of two texts. R20. "Order: 8; then the job text [..]; then the plan text the same way with 9 last; then [..] 10 before 11."
use Rattle.std.specs.Prelude.{ℕ, List, ◌++◌}
use Rattle.lines.specs.Text.{line_of}
use Rattle.lines.specs.Parser.{Outcome}
use Rattle.model.specs.Model.{Job}
use Rattle.model.specs.Limits.{answer_room}
use Rattle.model.specs.Verdict.{Judgement, accepts, unkept, wrong_cost, number_of, judged_of}
use Rattle.job_grammar.specs.Grammar.{Given, read_job_lem}
use Rattle.plan_grammar.specs.Grammar.{Stated, read_plan_lem}
use Rattle.answers.specs.Said.{Said, plainly}
use Rattle.answers.specs.Texts.{on_text, on_texts}

-- O4. "Judge 0: `result`, `cost`." O6. "Number 11: `result`, `cost` (the true one)."
unfoldable pub cost_lines : ℕ → ℕ → List ℕ
cost_lines number cost = line_of "result=" number ++ line_of "cost=" cost

-- O5. "Number 10: `result`, `part`, `due`."
unfoldable pub unkept_lines : ℕ → ℕ → List ℕ
unkept_lines part due = line_of "result=" 10 ++ line_of "part=" part ++ line_of "due=" due

-- the lines of a judgement
abbrev pub judge_lines : Judgement → List ℕ
judge_lines (accepts cost) = cost_lines 0 cost
judge_lines (unkept part due) = unkept_lines part due
judge_lines (wrong_cost cost) = cost_lines 11 cost

-- the answer that a judgement is: its number, and its lines
abbrev pub judge_reply : Judgement → Said
judge_reply j = plainly (number_of j) (judge_lines j)

-- what is said of an accepted job and of a plan stated with its cost
abbrev pub weighed : Job → Stated → Said
weighed job stated = judge_reply (judged_of job stated.cost stated.plan)

-- once the job is read: the plan text against it
abbrev pub on_plan : List ℕ → Job → Outcome Stated → Said
on_plan plan job = on_text 2 plan (weighed job)

-- by what the job text reads as
abbrev pub on_job : List ℕ → List ℕ → Outcome Given → Said
on_job job plan = on_texts job plan (λ given. read_plan_lem given.job plan) (λ given. weighed given.job)

-- the judge's answer where there is room for it
unfoldable pub judge_said : List ℕ → List ℕ → Said
judge_said job plan = on_job job plan (read_job_lem job)

-- X8. "The lent output has at least 16,384."
abbrev pub judge_room : ℕ
judge_room = answer_room
