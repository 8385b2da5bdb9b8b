-- `put_hall`: case by case, each with its number and its lines.
use mathlib.Core.Path.{◌≡◌, ap, subst, ◌∙◌}
use native.Mathlib.Omega.{arith}
use Rattle.lines.specs.Text.{bytes}
use Rattle.line_writing.specs.Puts.{Room}
use Rattle.branch.specs.Planning.{result_of}
use Rattle.planning.specs.Plan.{search_lines}
use Rattle.findings.specs.Finding.{found_answer, PrintableAnswer}
use Rattle.findings.specs.declared.Finding.{Finding}
use Rattle.findings.proofs.Numbers.{number_same}
use Rattle.hall_jobs.specs.Views.{hall_of}
use Rattle.hall_printing.specs.Lines.{hall_lines}
use Rattle.hall_search.specs.Found.{plans_held}
use Rattle.hall_printing.proofs.put_hall.Goals as goal
use Rattle.hall_printing.proofs.put_hall.Goals.{After-number_of-number}

-- the number of what is found, that it can be printed, and the room for its lines
number : (c : After-number_of-number) (f : Finding) → c.args.f ≡ f → c.number_of-number.result ≡ result_of (found_answer (plans_held c.args.hall.now c.args.plans.now) f)
number c f e = let plans = plans_held c.args.hall.now c.args.plans.now in
    c.number_of-number.ensures ∙ number_same plans c.args.f ∙ ap (λ (x : Finding). result_of (found_answer plans x)) e

printable : (c : After-number_of-number) (f : Finding) → c.args.f ≡ f → PrintableAnswer (found_answer (plans_held c.args.hall.now c.args.plans.now) f)
printable c f e = subst (λ (x : Finding). PrintableAnswer (found_answer (plans_held c.args.hall.now c.args.plans.now) x)) e c.requires.0

room : (c : After-number_of-number) (f : Finding) → c.args.f ≡ f → Room c.args.out.now (hall_lines (hall_of c.args.hall.now) (found_answer (plans_held c.args.hall.now c.args.plans.now) f))
room c f e = subst (λ (x : Finding). Room c.args.out.now (hall_lines (hall_of c.args.hall.now) (found_answer (plans_held c.args.hall.now c.args.plans.now) x))) e c.requires.1

pub put_line-requires : goal.put_line-requires
unfolding bytes
put_line-requires c = let here = (goal.at.put_line-requires c).After-number_of-number in
    rw (c.from.ensures, number here _ c.in-NoPlan.is) (record { n_bound = omega arith; n_in_bounds = room here _ c.in-NoPlan.is })

pub put_planned-requires : goal.put_planned-requires
put_planned-requires c = let here = (goal.at.put_planned-requires c).After-number_of-number in
    let h = printable here _ c.in-Optimum.is in
    rw (number here _ c.in-Optimum.is) (record { printable = (h.0, h.1, h.2); plans_in_bounds = room here _ c.in-Optimum.is })

pub put_planned-requires-in-Cut : goal.put_planned-requires-in-Cut
put_planned-requires-in-Cut c = let here = (goal.at.put_planned-requires-in-Cut c).After-number_of-number in
    let h = printable here _ c.in-Cut.is in
    rw (number here _ c.in-Cut.is) (record { printable = (h.0, h.1, h.2); plans_in_bounds = room here _ c.in-Cut.is })

pub put_three-requires : goal.put_three-requires
unfolding search_lines bytes
put_three-requires c = let here = (goal.at.put_three-requires c).After-number_of-number in
    let h = printable here _ c.in-CutBare.is in
    rw (number here _ c.in-CutBare.is) (h.0, h.1, room here _ c.in-CutBare.is)

pub returns-in-NoPlan : goal.returns-in-NoPlan
unfolding bytes
returns-in-NoPlan c = rw c.in-NoPlan.is (rw (c.from.ensures, number (goal.at.returns-in-NoPlan c).After-number_of-number _ c.in-NoPlan.is) at c.put_line.ensures)

pub returns-in-Optimum : goal.returns-in-Optimum
returns-in-Optimum c = rw c.in-Optimum.is (rw (number (goal.at.returns-in-Optimum c).After-number_of-number _ c.in-Optimum.is) at c.put_planned.ensures)

pub returns-in-Cut : goal.returns-in-Cut
returns-in-Cut c = rw c.in-Cut.is (rw (number (goal.at.returns-in-Cut c).After-number_of-number _ c.in-Cut.is) at c.put_planned-in-Cut.ensures)

pub returns-in-CutBare : goal.returns-in-CutBare
unfolding search_lines bytes
returns-in-CutBare c = rw c.in-CutBare.is (rw (number (goal.at.returns-in-CutBare c).After-number_of-number _ c.in-CutBare.is) at c.put_three.ensures)
