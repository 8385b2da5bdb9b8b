-- The arrays of a job with holders, as the tables are filled from them.
use Rattle.std.specs.Prelude.{ℕ, ◌≤◌, List, length, get_or, ℤ}
use Rattle.model.specs.Limits.{most_parts}
use Rattle.lane_rows.specs.Layout.{top}
use Rattle.search_tables.specs.Arrays as search

-- the arrays of the search over openings alone, and rm removals of the holding parts
pub record HeldArrays (e : ℤ) (ss : List ℤ) (fs ls rs ps rm : List ℕ) : Type 0 where
  pub plain : search.Arrays e ss fs ls rs ps
  pub holding : length rm ≤ most_parts
  pub removals : (b : ℕ) → get_or rm b 0 ≤ top
