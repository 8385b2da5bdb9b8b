-- The lines of an answer fit the room, 16,384 bytes: the longest has 8,821, 9 before what is printed of the plan, 8,812. By the keys, and the digits that a number can have.
use Rattle.std.specs.Prelude.{Option, Some, None}
use Prim.Native.Nat.{ℕ, ◌≤◌}
use native.Mathlib.Omega.{arith}
use lib.ListN.{length, length-append}
use Rattle.lines.specs.Text.{bytes}
use Rattle.lines.proofs.Writing.{line_most}
use Rattle.jobs.specs.declared.Plan.{Plan}
use Rattle.jobs.specs.Views.{plan_for}
use Rattle.job_text.specs.declared.accepted.AcceptedText.{AcceptedText}
use Rattle.job_text.specs.Views.{given_in}
use Rattle.plan_printing.proofs.Lengths.{printed_short}
use Rattle.serving.specs.Serve.{served_lines, latest_lines, latest_room}
use Rattle.serving.specs.Serving.{served_answer, PrintableServed}

-- the lines of an answer that can be printed fit the room that the call asks for
pub lines_short : (s : Option ℕ) (t : AcceptedText) (p : Plan) → PrintableServed s → length (latest_lines (given_in t) (served_answer (plan_for t.job.job p) s)) ≤ latest_room
unfolding served_lines bytes
lines_short None t p f = omega (arith, line_most (bytes "result=") 6)
lines_short (Some c) t p f = rw length-append (omega (arith, line_most (bytes "result=") 0, printed_short t c p f))
