-- "Lowest such part, and its due step: at its first gap that is too long, the last step at which a change would still have kept it (the change before, or R − L, plus L)": that sum, of the part and the gap that the judge reports.
use Rattle.std.specs.Prelude.{◌≡◌, [], ℕ, ◌≤◌, ℤ, pos, ◌+ℤ◌}
use Rattle.model.specs.Model.{Part, Job, Plan, clock, last_change_lem}
use Rattle.model.specs.Verdict.{part_at, last_of, LowestUnkept}

-- the part
abbrev pub late_part : {job : Job} {plan : Plan} {part due : ℕ} → LowestUnkept job plan part due → Part
late_part {job} r = part_at job r.place

-- the change before its gap, or R − L
abbrev pub change_before_gap : {job : Job} {plan : Plan} {part due : ℕ} → LowestUnkept job plan part due → ℤ
change_before_gap r = last_of (last_change_lem (late_part r)) r.gap.before

-- R10, E1.7. what the due step that the judge reports is
pub record DueIs (job : Job) (plan : Plan) (part due : ℕ) (r : LowestUnkept job plan part due) : Type 0 where
  -- without idle steps, the change before plus the life
  pub step : job.idles ≡ [] → pos due ≡ change_before_gap r +ℤ pos (late_part r).life
  -- with idle steps, its position is
  pub position : clock job due ≡ change_before_gap r +ℤ pos (late_part r).life
  -- where something is left of the first life it is at least 1
  pub from_1 : 1 ≤ (late_part r).left → 1 ≤ due
