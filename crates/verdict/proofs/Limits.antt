-- How large the values of a judgement on an accepted job can be: a part has at most two digits, a due step at most three. By the job's ranges and the promise's values.
use Prim.Native.Nat.{ℕ, ◌≤◌}
use mathlib.Core.Path.{◌≡◌, sym, subst}
use native.Mathlib.Omega.{arith}
use lib.ListN.{length}
use Rattle.model.specs.Model.{Job, Plan, cost_of_lem}
use Rattle.model.specs.Limits.{last_step, most_parts}
use Rattle.model.specs.Verdict.{Judgement, accepts, unkept, wrong_cost, Values, judged_of, part_at, changes_at}
use Rattle.model.proofs.Verdicts.{judge}
use Rattle.model.proofs.Dues.{due_in_horizon}
use Rattle.jobs.specs.Valid.{ValidJob}
use Rattle.verdict.specs.Ranges.{RangedJudgement}
use Rattle.plan_costs.specs.Dearest.{dearest_plan}
use Rattle.plan_costs.proofs.Dearest.{cost_most}

module _ (job : Job) (few : length job.parts ≤ most_parts) (short : job.horizon ≤ last_step) (plan : Plan) (small : cost_of_lem job plan ≤ dearest_plan) where
  limited : (j : Judgement) → Values job plan j → RangedJudgement j
  limited (accepts cost) v = omega (arith, v, small)
  limited (wrong_cost cost) v = omega (arith, v, small)
  limited (unkept part due) v =
      let d = due_in_horizon job (part_at job v.place) (changes_at plan v.place) due v.gap in
      (omega (arith, v.number), omega (arith, v.number, v.is_part, few), omega (arith, d, short))

  -- a judgement on a plan that is not too dear is limited
  pub judged_within : (cost : ℕ) (j : Judgement) → j ≡ judged_of job cost plan → RangedJudgement j
  judged_within cost j e = subst RangedJudgement (sym e) (limited (judged_of job cost plan) (judge job plan cost).values)

-- what the judge says is limited
pub judged_limited : (job : Job) → ValidJob job → (plan : Plan) (cost : ℕ) (j : Judgement) → j ≡ judged_of job cost plan → RangedJudgement j
judged_limited job valid plan = judged_within job valid.few_parts valid.horizon_high plan (cost_most job valid plan)
