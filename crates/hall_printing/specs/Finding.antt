-- A line of a hall with the plan that the code holds for it.
use Rattle.jobs.specs.declared.Plan as code
use Rattle.jobs.specs.declared.accepted.Accepted.{Accepted}
use Rattle.jobs.specs.Views.{plan_for}
use Rattle.hall_jobs.specs.Hall.{line_of_lem}
use Rattle.hall_printing.specs.Lines.{LinePlan}

-- a line with the plan that the code holds for it
abbrev pub line_held : Accepted → code.Plan → LinePlan
line_held a p = record { job = line_of_lem a; plan = plan_for a.job p }
