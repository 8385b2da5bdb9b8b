-- `put_optimum`: case by case, each with its number and its lines.
use mathlib.Core.Path.{◌≡◌, ap, subst, ◌∙◌}
use native.Mathlib.Omega.{arith}
use Rattle.lines.specs.Text.{bytes}
use Rattle.line_writing.specs.Puts.{Room}
use Rattle.line_writing.proofs.Putting.{then, room_front, room_behind}
use Rattle.model.specs.Promise.{result_of}
use Rattle.jobs.specs.Views.{plan_for}
use Rattle.job_text.specs.Views.{given_in}
use Rattle.findings.specs.Finding.{found_answer}
use Rattle.findings.specs.declared.Finding.{Finding}
use Rattle.findings.proofs.Numbers.{number_same}
use Rattle.optimizing.specs.Optimum.{floor_lines, optimum_lines, PrintableOptimum}
use Rattle.optimizing.proofs.put_optimum.Goals as goal
use Rattle.optimizing.proofs.put_optimum.Goals.{After-number_of-number}

-- the number of what is found, that it can be printed, and the room for its lines
number : (c : After-number_of-number) (f : Finding) → c.args.f ≡ f → c.number_of-number.result ≡ result_of (found_answer (plan_for c.args.text.now.job.job c.args.plan.now) f)
number c f e = let plan = plan_for c.args.text.now.job.job c.args.plan.now in
    c.number_of-number.ensures ∙ number_same plan c.args.f ∙ ap (λ (x : Finding). result_of (found_answer plan x)) e

printable : (c : After-number_of-number) (f : Finding) → c.args.f ≡ f → PrintableOptimum (found_answer (plan_for c.args.text.now.job.job c.args.plan.now) f)
printable c f e = subst (λ (x : Finding). PrintableOptimum (found_answer (plan_for c.args.text.now.job.job c.args.plan.now) x)) e c.requires.0

room : (c : After-number_of-number) (f : Finding) → c.args.f ≡ f → Room c.args.out.now (optimum_lines (given_in c.args.text.now) (found_answer (plan_for c.args.text.now.job.job c.args.plan.now) f))
room c f e = subst (λ (x : Finding). Room c.args.out.now (optimum_lines (given_in c.args.text.now) (found_answer (plan_for c.args.text.now.job.job c.args.plan.now) x))) e c.requires.1

pub put_line-requires : goal.put_line-requires
unfolding bytes
put_line-requires c = let here = (goal.at.put_line-requires c).After-number_of-number in
    rw (c.from.ensures, number here _ c.in-NoPlan.is) (record { n_bound = omega arith; n_in_bounds = room here _ c.in-NoPlan.is })

pub put_line-requires-in-Optimum : goal.put_line-requires-in-Optimum
unfolding bytes
put_line-requires-in-Optimum c = let here = (goal.at.put_line-requires-in-Optimum c).After-number_of-number in
    rw (c.from-in-Optimum.ensures, number here _ c.in-Optimum.is) (record { n_bound = omega arith; n_in_bounds = room_front _ (room here _ c.in-Optimum.is) })

pub put_printed-requires : goal.put_printed-requires
unfolding bytes
put_printed-requires c = let here = (goal.at.put_printed-requires c).After-number_of-number in
    record { cost_printable = printable here _ c.in-Optimum.is; plan_in_bounds = room_behind (room here _ c.in-Optimum.is) (rw (c.from-in-Optimum.ensures, number here _ c.in-Optimum.is) at c.put_line-in-Optimum.ensures) }

pub put_two-requires : goal.put_two-requires
unfolding floor_lines bytes
put_two-requires c = let here = (goal.at.put_two-requires c).After-number_of-number in
    rw (number here _ c.in-Cut.is) ((printable here _ c.in-Cut.is).0, room_front _ (room here _ c.in-Cut.is))

pub put_printed-requires-in-Cut : goal.put_printed-requires-in-Cut
unfolding floor_lines bytes
put_printed-requires-in-Cut c = let here = (goal.at.put_printed-requires-in-Cut c).After-number_of-number in
    record { cost_printable = (printable here _ c.in-Cut.is).1; plan_in_bounds = room_behind (room here _ c.in-Cut.is) (rw (number here _ c.in-Cut.is) at c.put_two.ensures) }

pub put_two-requires-in-CutBare : goal.put_two-requires-in-CutBare
unfolding floor_lines bytes
put_two-requires-in-CutBare c = let here = (goal.at.put_two-requires-in-CutBare c).After-number_of-number in
    rw (number here _ c.in-CutBare.is) (printable here _ c.in-CutBare.is, room here _ c.in-CutBare.is)

pub returns-in-NoPlan : goal.returns-in-NoPlan
unfolding bytes
returns-in-NoPlan c = rw c.in-NoPlan.is (rw (c.from.ensures, number (goal.at.returns-in-NoPlan c).After-number_of-number _ c.in-NoPlan.is) at c.put_line.ensures)

pub returns-in-Optimum : goal.returns-in-Optimum
unfolding bytes
returns-in-Optimum c = let here = (goal.at.returns-in-Optimum c).After-number_of-number in
    rw c.in-Optimum.is (then (rw (c.from-in-Optimum.ensures, number here _ c.in-Optimum.is) at c.put_line-in-Optimum.ensures) c.put_printed.ensures)

pub returns-in-Cut : goal.returns-in-Cut
unfolding floor_lines bytes
returns-in-Cut c = let here = (goal.at.returns-in-Cut c).After-number_of-number in
    rw c.in-Cut.is (then (rw (number here _ c.in-Cut.is) at c.put_two.ensures) c.put_printed-in-Cut.ensures)

pub returns-in-CutBare : goal.returns-in-CutBare
unfolding floor_lines bytes
returns-in-CutBare c = rw c.in-CutBare.is (rw (number (goal.at.returns-in-CutBare c).After-number_of-number _ c.in-CutBare.is) at c.put_two-in-CutBare.ensures)
