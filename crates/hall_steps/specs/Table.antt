-- The whole table of a hall's steps: a row of four for each step and one behind the last, how many steps and lines there are, and what a call costs.
use Rattle.std.specs.Prelude.{ℕ, ◌+◌, ◌<◌, ◌≤◌, ◌≡◌, cond, length, get_or}
use Rattle.model.specs.Limits.{most_openings}
use Rattle.model.specs.Model.{Job}
use Rattle.hall_model.specs.Hall.{Hall, Placed}
use Rattle.hall_model.specs.Agenda.{crew_steps}
use Rattle.hall_steps.specs.declared.CrewSteps.{CrewSteps}
use Rattle.hall_steps.specs.Steps.{level_in, open_in, Tells}

-- how many steps have an opening
abbrev pub step_count : Hall → ℕ
step_count hall = length (crew_steps hall)

-- the k-th of them
abbrev pub step_at : Hall → ℕ → ℕ
step_at hall k = get_or (crew_steps hall) k 0

-- the table of the hall: which lines are open at each step; a line has one opening more behind a step at which it is open, none before the first step and all behind the last
pub record CrewTable (hall : Hall) (ats : CrewSteps) : Type 0 where
  pub few : step_count hall ≤ most_openings
  pub steps_are : ats.steps ≡ step_count hall
  pub lines_are : ats.lines ≡ length hall.jobs
  pub call_is : ats.call ≡ hall.call
  pub tells : (k : ℕ) → k < step_count hall → Tells hall.jobs ats.before k (step_at hall k)
  pub rises : (k d : ℕ) → k < step_count hall → d < length hall.jobs → level_in ats.before (k + 1) d ≡ level_in ats.before k d + cond (open_in ats.before k d) 1 0
  pub within : (k d : ℕ) (job : Job) → k ≤ step_count hall → Placed hall.jobs d job → level_in ats.before k d ≤ length job.openings
  pub begins : (d : ℕ) → d < length hall.jobs → level_in ats.before 0 d ≡ 0
  pub ends : (d : ℕ) (job : Job) → Placed hall.jobs d job → level_in ats.before (step_count hall) d ≡ length job.openings
