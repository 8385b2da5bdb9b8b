-- The lines of an answer fit the room, 16,384 bytes: the longest has 8,855, 43 before what is printed of the plan, 8,812. By the keys, and the digits that a number can have.
use Prim.Native.Nat.{ℕ, ◌≤◌}
use native.Mathlib.Omega.{arith}
use lib.ListN.{length, length-append}
use Rattle.lines.specs.Text.{bytes}
use Rattle.lines.proofs.Writing.{line_most}
use Rattle.jobs.specs.declared.Plan.{Plan}
use Rattle.jobs.specs.Views.{plan_for}
use Rattle.job_text.specs.declared.accepted.AcceptedText.{AcceptedText}
use Rattle.job_text.specs.Views.{given_in}
use Rattle.plan_printing.proofs.Lengths.{printed_short}
use Rattle.findings.specs.Finding.{found_answer, PrintableAnswer}
use Rattle.findings.specs.declared.Finding.{Finding}
use Rattle.findings.specs.declared.Finding.TheVariants.{NoPlan, Optimum, Cut, CutBare}
use Rattle.planning.specs.Plan.{search_lines, planned_lines, planner_lines, plan_room}

-- the lines `result`, `nodes` and `floor` have at most 52 bytes together
pub search_short : (n m f : ℕ) → length (search_lines n m f) ≤ 52
unfolding search_lines bytes
search_short n m f = simp length-append (omega (arith, line_most (bytes "result=") n, line_most (bytes "nodes=") m, line_most (bytes "floor=") f))

-- the lines of a planner's answer that can be printed fit the room that the call asks for
pub lines_short : (f : Finding) (t : AcceptedText) (p : Plan) → PrintableAnswer (found_answer (plan_for t.job.job p) f) → length (planner_lines (given_in t) (found_answer (plan_for t.job.job p) f)) ≤ plan_room
unfolding planned_lines bytes
lines_short NoPlan t p f = omega (arith, line_most (bytes "result=") 6)
lines_short (Optimum n m c) t p f = rw length-append (omega (arith, search_short 0 n m, printed_short t c p f.2))
lines_short (Cut n m c) t p f = rw length-append (omega (arith, search_short 7 n m, printed_short t c p f.2))
lines_short (CutBare n m) t p f = omega (arith, search_short 7 n m)
