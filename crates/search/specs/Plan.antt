-- The changes of each part within the stops, as the code's rows hold them.
use Rattle.std.specs.Prelude.{ℕ, ◌-◌, ◌<◌, ◌≡◌, Bool, false, List, ◌++◌, length, get_or, replicate, ℤ, pos}
use Rattle.model.specs.Model.{Part, last_change_lem}
use Rattle.model.specs.Limits.{most_openings}
use Rattle.model.specs.LowerBound.{offers, choice_of}
use Rattle.jobs.specs.declared.Changes.{Changes}
use Rattle.search_tables.specs.Arrays.{lane_part}
use Rattle.search_tables.specs.declared.flat.FlatJob.{FlatJob}
use Rattle.lane_rows.specs.Layout.{lane_count_lem}

-- the tie rule's changes of a part within the stops
abbrev pub choice_at : ℤ → List ℤ → Part → List Bool → List Bool
choice_at e ss part stops = choice_of (pos part.life) e (last_change_lem part) (offers ss part.prices stops)

-- part q's row: its changes within the stops, and no change past the last opening
abbrev pub row_of : FlatJob → List Bool → ℕ → List Bool
row_of j stops q = choice_at j.end j.positions.now (lane_part (length j.positions.now) j.lives.now j.lefts.now j.prices.now q) stops ++ replicate (most_openings - length j.positions.now) false

-- a part without a change
abbrev pub no_row : Changes
no_row = record { at = replicate most_openings false }

-- the first m rows are those of the first m parts
pub record Rows (f : ℕ → List Bool) (rows : List Changes) (m : ℕ) : Type 0 where
  pub size : length rows ≡ lane_count_lem
  pub row : (q : ℕ) → q < m → (get_or rows q no_row).at ≡ f q

-- the first m rows are those of the first m parts within the stops; no change past the last opening
abbrev pub Chooses : ℤ → List ℤ → List ℕ → List ℕ → List ℕ → List Bool → List Changes → ℕ → Type 0
Chooses e ss ls rs ps stops = Rows (λ (q : ℕ). choice_at e ss (lane_part (length ss) ls rs ps q) stops ++ replicate (most_openings - length ss) false)
