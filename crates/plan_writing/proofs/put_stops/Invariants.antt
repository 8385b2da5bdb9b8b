use Prim.Native.Nat.{ℕ}
use mathlib.Core.List.{List, []}
use mathlib.Core.Bool.{false, cond}
use lib.ListN.{get_or}
use Rattle.base.specs.Joined.{joined}
use Rattle.line_writing.specs.Puts.{Puts}
use Rattle.jobs.specs.declared.Job.{Job}
use Rattle.jobs.specs.Views.{job_of, plan_for}
use Rattle.plan_grammar.specs.Rendering.{visit_at, visit_text}
use Rattle.jobs.specs.declared.Plan.{Plan}
use Rattle.plan_writing.proofs.put_stops.Given as goal

-- the lines of the stop at opening i, or nothing
abbrev pub piece : Job → Plan → ℕ → List ℕ
piece job plan i = cond (get_or plan.stops i false) (visit_text (visit_at (job_of job) (plan_for job plan) i)) []

abbrev pub invariant-loop-i : goal.invariant-loop-i
invariant-loop-i l = Puts l.initial.out (joined (piece l.job l.plan) l.i) l.out
