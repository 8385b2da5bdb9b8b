-- The openings that each line of a hall has at some steps, and the rows of the crew's table for them.
use Rattle.std.specs.Prelude.{ℕ, ◌+◌, ◌≤◌, ◌≡◌, cond, List, map, length, get_or, take}
use Rattle.model.specs.Model.{Job}
use Rattle.model.specs.Limits.{most_openings}
use Rattle.hall_model.specs.Hall.{Placed, open_at, sum_of}
use Rattle.hall_steps.specs.declared.CrewSteps.{CrewSteps}
use Rattle.hall_steps.specs.Steps.{level_in}

-- the line's openings at a step: one or none
abbrev pub opened_at : Job → ℕ → ℕ
opened_at job step = cond (open_at job step) 1 0

-- the line's openings at some steps
abbrev pub opened_in : Job → List ℕ → ℕ
opened_in job steps = sum_of (map (opened_at job) steps)

-- the row behind a step: each line has its opening there more
abbrev pub Behind : List Job → ℕ → List ℕ → List ℕ → Type 0
Behind jobs step row row' = (d : ℕ) (job : Job) → Placed jobs d job → get_or row' d 0 ≡ get_or row d 0 + opened_at job step

-- the table has these steps: before each of them, and behind the last, each line has its openings at those before
pub record Rowed (jobs : List Job) (done : List ℕ) (ats : CrewSteps) : Type 0 where
  pub count : ats.steps ≡ length done
  pub few : length done ≤ most_openings
  pub rows : (k d : ℕ) (job : Job) → k ≤ length done → Placed jobs d job → level_in ats.before k d ≡ opened_in job (take k done)
