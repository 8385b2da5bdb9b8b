-- E11. What is printed of a plan: "If the job has a `low` line and the planner or E9's call prints a plan, a `costlow` line stands before the plan lines".
use Rattle.std.specs.Prelude.{ℕ, cond, List, [], ◌++◌}
use Rattle.lines.specs.Text.{line_of}
use Rattle.model.specs.Model.{Plan, cost_of_lem}
use Rattle.job_grammar.specs.Grammar.{Given}
use Rattle.plan_grammar.specs.Rendering.{plan_lines_of}

-- "`costlow` and `cost` are the plan at all low and all high ends."
unfoldable pub low_lines : Given → Plan → List ℕ
low_lines given plan = cond given.banded (line_of "costlow=" (cost_of_lem given.low plan)) []

-- that line where it is due, and the plan lines
unfoldable pub printed_lines : Given → ℕ → Plan → List ℕ
printed_lines given cost plan = low_lines given plan ++ plan_lines_of given.job cost plan
