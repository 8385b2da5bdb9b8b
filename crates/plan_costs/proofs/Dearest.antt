-- How much a plan of an accepted job can cost: at most ten digits. By the job's ranges.
use Prim.Native.Nat.{◌≤◌}
use mathlib.Core.List.{map}
use native.Mathlib.Omega.{arith}
use lib.ListN.{length, length-map}
use Rattle.model.specs.Model.{Job, Plan, fee_of, cost_of_lem}
use Rattle.jobs.specs.Valid.{ValidJob}
use Rattle.plan_costs.proofs.Sums.{sum_most, cheap_fees, cheap_removals}
use Rattle.plan_costs.proofs.Prices.{prices_most}
use Rattle.plan_costs.proofs.Removed.{removals_most}
use Rattle.plan_costs.specs.Dearest.{dearest_plan}

module _ (job : Job) (valid : ValidJob job) (plan : Plan) where
  -- no plan of a valid job costs more than all fees, prices and removals at their dearest
  pub cost_most : cost_of_lem job plan ≤ dearest_plan
  cost_most =
      omega (
        arith,
        valid.few_openings,
        valid.few_parts,
        length-map job.openings fee_of,
        sum_most (map fee_of job.openings) plan.stops (cheap_fees job.openings valid.openings),
        prices_most (length job.openings) valid.few_openings job.parts plan.changes valid.parts,
        removals_most job plan.changes valid.few_parts (cheap_removals (length job.openings) job.parts valid.parts),
      )
