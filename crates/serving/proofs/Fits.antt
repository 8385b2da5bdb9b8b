-- What the code finds can be printed, where it is the model's answer: the cost is that of a plan.
use Rattle.std.specs.Prelude.{Option, Some, None}
use Prim.Native.Nat.{ℕ, ◌<◌}
use mathlib.Core.Path.{◌≡◌, ap}
use mathlib.Core.Bool.{Bool, true, false, cond}
use mathlib.Core.List.{List}
use native.Mathlib.Omega.{arith}
use Rattle.model.specs.Model.{Job, Plan, cost_of_lem}
use Rattle.jobs.specs.Valid.{ValidJob}
use Rattle.plan_costs.proofs.Dearest.{cost_most}
use Rattle.latest.specs.Latest.{LatestAnswer, unserved, serves, latest_plan_of, each_served, latest_answer_of}
use Rattle.serving.specs.Serving.{served_answer, PrintableServed}

-- the cost that an answer states
abbrev stated : LatestAnswer → ℕ
stated unserved = 0
stated (serves cost plan) = cost

-- what the code finds can be printed, where it is the model's answer for a valid job
pub fits : (job : Job) → ValidJob job → (stops : List Bool) (plan : Plan) (s : Option ℕ) → served_answer plan s ≡ latest_answer_of job stops → PrintableServed s
unfolding latest_answer_of
fits job ok stops plan None e = tt
fits job ok stops plan (Some cost) e = omega (arith, ap stated e, small (each_served job stops job.parts))
  where
    small : (b : Bool) → stated (cond b (serves (cost_of_lem job (latest_plan_of job stops)) (latest_plan_of job stops)) unserved) < 10000000000
    small true = omega (arith, cost_most job ok (latest_plan_of job stops))
    small false = omega arith
