-- The walk of a hall: where it begins, and what it leaves.
use Rattle.std.specs.Prelude.{ℕ, ◌≡◌, List, [], Bool, Option, Some, None, length, get_or}
use Rattle.branch.specs.declared.Bound.{Bound}
use Rattle.branch.specs.declared.Bound.TheVariants.{Missing, Sum}
use Rattle.branch.specs.Search.{at_most}
use Rattle.model.specs.Model.{Job}
use Rattle.model.specs.LowerBound.{inner}
use Rattle.search_state.specs.declared.Solved.{Solved}
use Rattle.held_nodes.specs.State.{best_name}
use Rattle.held_search.specs.Solved.{limited_by}
use Rattle.hall_model.specs.Hall.{Hall, Placed}
use Rattle.hall_model.specs.Agenda.{name_for}
use Rattle.hall_model.specs.LowerBound.{hall_bound}
use Rattle.hall_model.specs.Promise.{hall_tree}
use Rattle.hall_state.specs.declared.Question.TheVariants.{CrewCall}
use Rattle.hall_state.specs.declared.Spot.{Spot}
use Rattle.hall_state.specs.Courses.{Arrays, rows_at}

-- the first call is asked, and the estimate is the hall's floor
abbrev pub first_spot : ℕ → Spot
first_spot floor = record { asks = CrewCall; step = 0; line = 0; total = floor }

-- the walk's first spot, by the floor if it is walked on from
abbrev pub first_by : Bound → Option Spot
first_by Missing = None
first_by (Sum floor) = Some (first_spot floor)

-- the first node's bound, the walk's last state, whose incumbent has this name, and each line's part of the name: its stops in a number, and the removals beside its rows
pub record HallSearched (hall : Hall) (limit : ℕ) (rows : Arrays) (masks : List ℕ) (r : Solved) : Type 0 where
  pub found : List Bool
  pub floor : r.floor ≡ hall_bound hall []
  pub walked : limited_by found r ≡ at_most limit (hall_tree hall)
  pub names : (c : ℕ) → r.cost ≡ Some c → (d : ℕ) (job : Job) → Placed hall.jobs d job
      → name_for hall (record { place = d; job = job }) found ≡ best_name (inner job) (length job.openings) (rows_at rows d).v (get_or masks d 0)
