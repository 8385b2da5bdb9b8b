-- What one step of each loop over the lives adds: one gap to the gaps before it, one part to the parts before it. The lives are gone through up to a position, which for a whole plan is the end.
use Rattle.std.specs.Prelude.{ℕ, ◌+◌, Bool, cond, List, [], ◌∷◌, get_or, drop, ℤ, pos}
use Rattle.model.specs.Model.{Part, Job, Plan, positions, last_change_lem, within, due_of_lem, select}
use Rattle.model.specs.Verdict.{Gaps, in_time_lem2, too_long, Verdict, keeps, late, ruled}

-- one gap, from the change before to the next change or the end
abbrev pub gap_of : Job → ℤ → ℤ → ℤ → Gaps
gap_of job life prev next = cond (within life prev next) in_time_lem2 (too_long (due_of_lem job life prev))

-- the first of two that is too long
abbrev pub first_long_lem : Gaps → Gaps → Gaps
first_long_lem in_time_lem2 b = b
first_long_lem (too_long due) b = too_long due

-- the lower part of two that is late
abbrev pub lower_part_lem : Verdict → Verdict → Verdict
lower_part_lem keeps b = b
lower_part_lem (late part due) b = late part due

-- a part's gaps up to the position `to`, the change before at `prev`, with the job's due steps
unfoldable pub gaps_to : Job → ℤ → ℤ → ℤ → List ℤ → Gaps
gaps_to job to life prev [] = gap_of job life prev to
gaps_to job to life prev (s ∷ ss) = cond (within life prev s) (gaps_to job to life s ss) (too_long (due_of_lem job life prev))

-- those of a part of the job under a change set
abbrev pub late_to_lem : Job → ℤ → Part → List Bool → Gaps
late_to_lem job to part changes = gaps_to job to (pos part.life) (last_change_lem part) (select (positions job) changes)

-- of parts from number n on, each with its gaps, the lowest that is late; one without a change set has no changes
unfoldable pub lowest_late : (Part → List Bool → Gaps) → ℕ → List Part → List (List Bool) → Verdict
lowest_late gaps n [] cs = keeps
lowest_late gaps n (part ∷ parts) cs = ruled n (gaps part (get_or cs 0 [])) (lowest_late gaps (n + 1) parts (drop 1 cs))

-- the verdict on a plan up to the position `to`
abbrev pub verdict_to_lem : Job → ℤ → Plan → Verdict
verdict_to_lem job to plan = lowest_late (late_to_lem job to) 1 job.parts plan.changes
