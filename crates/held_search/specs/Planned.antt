-- The plan of a name, as the code's arrays have it.
use Rattle.std.specs.Prelude.{ℕ, ◌-◌, Bool, true, false, List, [], ◌∷◌, ◌++◌, length, get_or, replicate}
use Rattle.model.specs.LowerBound.{blocks}
use Rattle.jobs.specs.declared.Changes.{Changes}
use Rattle.held_places.specs.Blocks.{Entries}
use Rattle.held_tables.specs.declared.numbers.HeldNumbers.{HeldNumbers}
use Rattle.held_places.specs.Arrays.{prices_at}
use Rattle.held_places.specs.Changes.{places_of, lane_choice}
use Rattle.held_search.specs.declared.parts.Parts.{Parts}
use Rattle.held_search.specs.Solved.{Chooses}

-- part q's row at the name: its changes there, and no change past the last opening
abbrev pub row_at : Parts → List Bool → ℕ → List Bool
row_at p name q =
    lane_choice p.end p.positions.now (get_or p.lives.now q 0) (get_or p.lefts.now q 0) (prices_at (length p.positions.now) p.prices.now q) (places_of (length p.positions.now) p.needs.holding p.needs.marks.now q name)
    ++ replicate (64 - length p.positions.now) false

-- the stops of the name
abbrev pub Stops : HeldNumbers → List Bool → List Bool → Type 0
Stops n name stops = Entries false (λ (k : ℕ). get_or (get_or (blocks (length n.removals.now) (length n.job.positions.now) name) k (false ∷ [])) 0 true) (length n.job.positions.now) stops

-- the first m parts' changes at the name
abbrev pub Changed : HeldNumbers → List Bool → List Changes → ℕ → Type 0
Changed n name rows m = Chooses n.job.end n.job.positions.now n.job.lives.now n.job.lefts.now n.job.prices.now n.needs.now (length n.removals.now) name rows m
