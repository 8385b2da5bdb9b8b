-- What the walk's turns leave: the incumbent kept of each line.
use Rattle.std.specs.Prelude.{ℕ, ◌<◌, ◌≡◌, Bool, List, length, get_or}
use Rattle.base.specs.Filled.{FilledBy}
use Rattle.model.specs.Limits.{most_openings}
use Rattle.held_lanes.specs.Places.{removed_place, best_place}
use Rattle.hall_model.specs.Hall.{Hall}
use Rattle.hall_lines.specs.declared.LineTables.{LineTables}
use Rattle.hall_lines.specs.Levels.{mask_in}
use Rattle.hall_steps.specs.Steps.{level_in}
use Rattle.hall_steps.specs.declared.CrewSteps.{CrewSteps}
use Rattle.hall_state.specs.declared.Ground.{Ground}
use Rattle.hall_state.specs.declared.Spot.{Spot}
use Rattle.hall_state.specs.Courses.{Arrays, Course, rows_at}
use Rattle.hall_state.specs.Spots.{Stood}
use Rattle.hall_state.specs.Moves.{Crewed}

-- what is read, by the lines' tables and the crew's steps
abbrev pub ground_of : List LineTables → CrewSteps → Ground
ground_of t ats = record { lines = t; ats = ats }

-- where the walk stands at this spot: in which hall, at the node of which name, with which calls and courses, none of which the code knows
pub record StoodAt (g : Ground) (a : Arrays) (p : Spot) : Type 0 where
  pub hall : Hall
  pub name : List Bool
  pub calls : ℕ
  pub cs : List Course
  pub crewed : Crewed hall g.ats
  pub stood : Stood hall g a p name calls cs

-- of the first d lines the removals are kept beside their rows, and the stops in a number; of the others nothing is written, and no rows and no levels are
pub record KeptLines (a a' : Arrays) (best : List ℕ) (ats : CrewSteps) (d : ℕ) : Type 0 where
  pub size : length a' ≡ length a
  pub count : length best ≡ 4
  pub removals : (e : ℕ) → e < d → FilledBy best_place (λ (i : ℕ). get_or (rows_at a e).v (removed_place i) 0) most_openings (rows_at a e).v (rows_at a' e).v
  pub masks : (e : ℕ) → e < d → get_or best e 0 ≡ mask_in (rows_at a e).n (level_in ats.before ats.steps e)
  pub rows : (e : ℕ) → (rows_at a' e).w ≡ (rows_at a e).w
  pub levels : (e : ℕ) → (rows_at a' e).n ≡ (rows_at a e).n
