-- `cost_of`: the fees, the prices and the removals, which fit by the job's ranges.
use native.Mathlib.Omega.{arith}
use Prim.Native.Nat.{◌+◌, ◌≤◌}
use Rattle.jobs.specs.Views.{job_of, plan_for}
use Rattle.plan_costs.specs.Dearest.{dearest_plan}
use Rattle.plan_costs.proofs.Dearest.{cost_most}
use Rattle.plan_costs.proofs.costs.cost_of.Goals as goal
use Rattle.plan_costs.proofs.costs.cost_of.Goals.{After-removals_paid-removals}

-- all that is paid
most : (c : After-removals_paid-removals) → c.fees_of-fees.result + c.prices_of-prices.result + c.removals_paid-removals.result ≤ dearest_plan
most c =
    omega (arith, c.fees_of-fees.ensures, c.prices_of-prices.ensures, c.removals_paid-removals.ensures, cost_most (job_of c.args.job.now.job) c.args.job.now.valid (plan_for c.args.job.now.job c.args.plan.now))

pub overflow_add-result : goal.overflow_add-result
overflow_add-result c = omega (arith, most c)

pub overflow_add-result-2 : goal.overflow_add-result-2
overflow_add-result-2 c = omega (arith, most c)

pub returns : goal.returns
returns c = omega (arith, c.fees_of-fees.ensures, c.prices_of-prices.ensures, c.removals_paid-removals.ensures)
