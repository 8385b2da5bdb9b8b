-- `put_own`: the cost of the line's plan is its true one, and can be printed.
use native.Mathlib.Omega.{arith}
use Rattle.jobs.specs.Views.{job_of, plan_for}
use Rattle.plan_costs.proofs.Dearest.{cost_most}
use Rattle.hall_printing.proofs.put_own.Goals as goal

pub put_plan-requires : goal.put_plan-requires
put_plan-requires c = let a = c.args.job.now in
    record { cost_printable = omega (arith, c.cost_of.ensures, cost_most (job_of a.job) a.valid (plan_for a.job c.args.plan.now)); plan_in_bounds = rw (c.cost_of.ensures) c.requires }

pub returns : goal.returns
returns c = rw (c.cost_of.ensures) at c.put_plan.ensures
