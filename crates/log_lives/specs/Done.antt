-- What a log did, as code works it out on the job with the openings that are past alone.
use Rattle.std.specs.Prelude.{ℕ, List, length}
use Rattle.model.specs.Model.{Job, Plan, clock, cost_of_lem, table}
use Rattle.model.specs.Verdict.{Judgement, judged, part_at, changes_at}
use Rattle.plan_lives.specs.Steps.{verdict_to_lem}
use Rattle.carry.specs.Carry.{unused, natural}

-- the judgement on a plan as far as a step: by the verdict up to its position, and then by the stated cost
abbrev pub judged_to : Job → ℕ → ℕ → Plan → Judgement
judged_to job step cost plan = judged cost (cost_of_lem job plan) (verdict_to_lem job (clock job step) plan)

-- E12.2. "the life not yet used" of part k + 1 at the step
abbrev pub left_at : Job → ℕ → Plan → ℕ → ℕ
left_at job step plan k = natural (unused job step (part_at job k) (changes_at plan k))

-- that of each part
abbrev pub lefts_at_lem : Job → ℕ → Plan → List ℕ
lefts_at_lem job step plan = table (left_at job step plan) (length job.parts)
