use Prim.Native.Nat.{ℕ, ◌+◌}
use mathlib.Core.List.{List, []}
use mathlib.Core.Bool.{cond}
use Rattle.lines.specs.Text.{line_of}
use Rattle.base.specs.Joined.{joined}
use Rattle.line_writing.specs.Puts.{Puts}
use Rattle.jobs.specs.Views.{changed_in}
use Rattle.jobs.specs.declared.Plan.{Plan}
use Rattle.plan_writing.proofs.put_parts.Given as goal

-- the line of part k + 1, or nothing
abbrev pub piece : Plan → ℕ → ℕ → List ℕ
piece plan i k = cond (changed_in plan i k) (line_of "part=" (k + 1)) []

abbrev pub invariant-loop-k : goal.invariant-loop-k
invariant-loop-k l = Puts l.initial.out (joined (piece l.plan l.i) l.k) l.out
