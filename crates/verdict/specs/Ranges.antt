-- How large the values of a judgement on an accepted job can be.
use Rattle.std.specs.Prelude.{◌≤◌}
use Rattle.model.specs.Limits.{last_step, most_parts}
use Rattle.model.specs.Verdict.{Judgement, accepts, unkept, wrong_cost}
use Rattle.plan_costs.specs.Dearest.{dearest_plan}

-- each value is within its range
abbrev pub RangedJudgement : Judgement → Type 0
RangedJudgement (accepts cost) = cost ≤ dearest_plan
RangedJudgement (unkept part due) = (1 ≤ part) × (part ≤ most_parts) × (due ≤ last_step)
RangedJudgement (wrong_cost cost) = cost ≤ dearest_plan
