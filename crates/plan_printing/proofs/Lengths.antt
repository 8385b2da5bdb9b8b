-- What is printed of a plan has at most 8,812 bytes: 19 for the cost at the low ends, and the plan's 8,793. By the digits that a number can have.
use Prim.Native.Nat.{ℕ, ◌≤◌, ◌<◌}
use mathlib.Core.Bool.{Bool, true, false, cond}
use mathlib.Core.List.{[]}
use native.Mathlib.Omega.{arith}
use lib.ListN.{length, length-append}
use Rattle.lines.specs.Text.{bytes, line_of}
use Rattle.lines.proofs.Writing.{line_most}
use Rattle.model.specs.Model.{cost_of_lem}
use Rattle.model.specs.Model as model
use Rattle.jobs.specs.declared.Plan.{Plan}
use Rattle.jobs.specs.Views.{plan_for}
use Rattle.job_grammar.specs.Grammar.{Given}
use Rattle.job_text.specs.declared.accepted.AcceptedText.{AcceptedText}
use Rattle.job_text.specs.Views.{given_in}
use Rattle.plan_writing.proofs.Lengths.{plan_short}
use Rattle.plan_printing.specs.Printed.{low_lines, printed_lines}

-- the longest that is printed of a plan
abbrev pub longest : ℕ
longest = 8812

low_short : (g : Given) (plan : model.Plan) → length (low_lines g plan) ≤ 19
unfolding low_lines bytes
low_short g plan = go g.banded
  where
    go : (b : Bool) → length (cond b (line_of "costlow=" (cost_of_lem g.low plan)) []) ≤ 19
    go true = omega (arith, line_most (bytes "costlow=") (cost_of_lem g.low plan))
    go false = omega arith

-- what is printed of an accepted text's plan, with a cost below 10,000,000,000, is no longer than the longest
pub printed_short : (t : AcceptedText) (cost : ℕ) (p : Plan) → cost < 10000000000 → length (printed_lines (given_in t) cost (plan_for t.job.job p)) ≤ longest
unfolding printed_lines
printed_short t cost p small =
    rw (length-append (low_lines (given_in t) (plan_for t.job.job p)))
    (omega (arith, low_short (given_in t) (plan_for t.job.job p), plan_short t.job cost p small))
