-- What the moves of the walk are given.
use Rattle.std.specs.Prelude.{ℕ, ◌≡◌, Bool, List}
use Rattle.hall_model.specs.Hall.{Hall}
use Rattle.hall_state.specs.declared.Ground.{Ground}
use Rattle.hall_state.specs.declared.Question.{Question}
use Rattle.hall_state.specs.declared.Spot.{Spot}
use Rattle.hall_state.specs.Courses.{Arrays, Course}
use Rattle.hall_state.specs.Spots.{Stood, Asked}
use Rattle.hall_state.specs.Moves.{Crewed}

-- a question of the hall's walk
pub record Asking (hall : Hall) (g : Ground) (a : Arrays) (p : Spot) (name : List Bool) (calls : ℕ) (cs : List Course) : Type 0 where
  pub crewed : Crewed hall g.ats
  pub stood : Stood hall g a p name calls cs
  pub asked : Asked hall g.ats p

-- where this question is asked: of which hall, at the node of which name, with which calls and courses, none of which the code knows
pub record AskedAt (q : Question) (g : Ground) (a : Arrays) (p : Spot) : Type 0 where
  pub hall : Hall
  pub name : List Bool
  pub calls : ℕ
  pub cs : List Course
  pub asking : Asking hall g a p name calls cs
  pub is : p.asks ≡ q
