-- `put_serving`: case by case, each with its number and its lines.
use Rattle.std.specs.Prelude.{Option}
use Prim.Native.Nat.{ℕ}
use mathlib.Core.Path.{◌≡◌, ap, subst, ◌∙◌}
use native.Mathlib.Omega.{arith}
use Rattle.lines.specs.Text.{bytes}
use Rattle.line_writing.specs.Puts.{Room}
use Rattle.line_writing.proofs.Putting.{then, room_front, room_behind}
use Rattle.jobs.specs.Views.{plan_for}
use Rattle.job_text.specs.Views.{given_in}
use Rattle.latest.specs.Latest.{latest_number}
use Rattle.serving.specs.Serve.{served_lines, latest_lines}
use Rattle.serving.specs.Serving.{served_answer, PrintableServed}
use Rattle.serving.proofs.put_serving.Goals as goal
use Rattle.serving.proofs.put_serving.Goals.{After-from-number}

-- the number of what is found, and the room for its lines
number : (c : After-from-number) (s : Option ℕ) → c.args.s ≡ s → c.from-number.result ≡ latest_number (served_answer (plan_for c.args.text.now.job.job c.args.plan.now) s)
number c s e = let plan = plan_for c.args.text.now.job.job c.args.plan.now in
    c.from-number.ensures ∙ c.number_of.ensures plan ∙ ap (λ (x : Option ℕ). latest_number (served_answer plan x)) e

room : (c : After-from-number) (s : Option ℕ) → c.args.s ≡ s → Room c.args.out.now (latest_lines (given_in c.args.text.now) (served_answer (plan_for c.args.text.now.job.job c.args.plan.now) s))
room c s e = subst (λ (x : Option ℕ). Room c.args.out.now (latest_lines (given_in c.args.text.now) (served_answer (plan_for c.args.text.now.job.job c.args.plan.now) x))) e c.requires.1

pub put_line-requires : goal.put_line-requires
unfolding served_lines bytes
put_line-requires c = let here = (goal.at.put_line-requires c).After-from-number in
    rw (number here _ c.in-Some.is) (record { n_bound = omega arith; n_in_bounds = room_front _ (room here _ c.in-Some.is) })

pub put_printed-requires : goal.put_printed-requires
unfolding served_lines bytes
put_printed-requires c = let here = (goal.at.put_printed-requires c).After-from-number in
    record { cost_printable = subst PrintableServed c.in-Some.is c.requires.0; plan_in_bounds = room_behind (room here _ c.in-Some.is) (rw (number here _ c.in-Some.is) at c.put_line.ensures) }

pub put_line-requires-in-None : goal.put_line-requires-in-None
unfolding bytes
put_line-requires-in-None c = let here = (goal.at.put_line-requires-in-None c).After-from-number in
    rw (number here _ c.in-None.is) (record { n_bound = omega arith; n_in_bounds = room here _ c.in-None.is })

pub returns-in-Some : goal.returns-in-Some
unfolding served_lines bytes
returns-in-Some c = let here = (goal.at.returns-in-Some c).After-from-number in
    rw c.in-Some.is (then (rw (number here _ c.in-Some.is) at c.put_line.ensures) c.put_printed.ensures)

pub returns-in-None : goal.returns-in-None
unfolding bytes
returns-in-None c = let here = (goal.at.returns-in-None c).After-from-number in
    rw c.in-None.is (rw (number here _ c.in-None.is) at c.put_line-in-None.ensures)
