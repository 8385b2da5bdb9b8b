-- What the walk gives, the incumbent's name, and the changes of each part, as the code's rows hold them.
use Rattle.std.specs.Prelude.{ℕ, ◌-◌, ◌≡◌, Bool, true, false, cond, List, [], ◌∷◌, ◌++◌, Option, None, Some, length, get_or, replicate, ℤ}
use Rattle.branch.specs.Search.{Limited, at_most}
use Rattle.model.specs.Model.{Job}
use Rattle.model.specs.LowerBound.{bound_of}
use Rattle.model.specs.Promise.{searched}
use Rattle.jobs.specs.declared.Changes.{Changes}
use Rattle.held_places.specs.Arrays.{prices_at}
use Rattle.held_places.specs.Changes.{places_of, lane_choice}
use Rattle.search.specs.Plan.{Rows}
use Rattle.search_state.specs.declared.Solved.{Solved}
use Rattle.search_state.specs.State.{bits, found_as}

-- the most decisions that a name has: 64 openings, each with a stop and 16 removals
abbrev pub name_size : ℕ
name_size = 1088

-- the block of an opening: no stop, or a stop and its h removals, the latest in the number's lowest bit
abbrev pub block_of : ℕ → Bool → ℕ → List Bool
block_of h stop removed = cond stop (true ∷ bits h removed) (false ∷ [])

-- the walk's last state as the search has it, where the incumbent has this name
abbrev pub limited_by : List Bool → Solved → Limited
limited_by name r = record { count = r.count; over = r.over; incumbent = found_as name r.cost }

-- the block of an opening with these removals, or with no stop
abbrev pub block_said : ℕ → Option ℕ → List Bool
block_said h None = false ∷ []
block_said h (Some x) = true ∷ bits h x

-- the first node's bound, and the walk's last state
pub record SolvesJob (job : Job) (limit : ℕ) (name : List Bool) (r : Solved) : Type 0 where
  pub floor : r.floor ≡ bound_of job []
  pub walked : limited_by name r ≡ at_most limit (searched job)

-- the first m rows are those of the first m parts; no change past the last opening
abbrev pub Chooses : ℤ → List ℤ → List ℕ → List ℕ → List ℕ → List Bool → ℕ → List Bool → List Changes → ℕ → Type 0
Chooses e ss ls rs ps nd h name = Rows (λ (q : ℕ). lane_choice e ss (get_or ls q 0) (get_or rs q 0) (prices_at (length ss) ps q) (places_of (length ss) h nd q name) ++ replicate (64 - length ss) false)
