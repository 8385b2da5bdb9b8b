-- What the ascent reads off the tables before it starts: the prices at a scale, and the first marks.
use Rattle.std.specs.Prelude.{ℕ, ◌+◌, ◌*◌, ◌<◌, ◌≤◌, ◌≡◌, List, min, get_or}
use Rattle.lane_rows.specs.Layout.{lane_count_lem, inf, place, price_base, reach_base, suffix_base}
use Rattle.model.specs.Limits.{most_openings}

-- each lane's price at each opening as often as the scale says, at most the number for a missing one; nothing at the end
pub record Scales (t : List ℕ) (scale : ℕ) (prices : List ℕ) : Type 0 where
  pub priced : (k : ℕ) → k < most_openings * lane_count_lem → get_or prices k 0 ≡ min inf (get_or t (price_base + k) 0 * scale)
  pub end : (k : ℕ) → most_openings * lane_count_lem ≤ k → get_or prices k 0 ≡ 0

-- one of the first lanes of a row lasts
abbrev pub SomeLasts : ℕ → List ℕ → Type 0
SomeLasts parts row = (q : ℕ) × (q < parts) × (get_or row q 0 < inf)

-- none of them does
abbrev pub NoneLasts : ℕ → List ℕ → Type 0
NoneLasts parts row = (q : ℕ) → q < parts → inf ≤ get_or row q 0

-- i is the least mark before j from which one of the first lanes lasts to j, by the block of the tables from `base` on; or j, where there is none
pub record FirstMark (t : List ℕ) (base j parts i : ℕ) : Type 0 where
  pub within : i ≤ j
  pub none_before : (m q : ℕ) → m < i → q < parts → inf ≤ get_or t (place base j m q) 0
  pub lasts : i < j → (q : ℕ) × (q < parts) × (get_or t (place base j i q) 0 < inf)

-- the first mark for each opening, by the block of reach, and for the end, by the one of suffix prices; nothing behind
pub record Firsts (t : List ℕ) (openings parts : ℕ) (firsts : List ℕ) : Type 0 where
  pub reached : (k : ℕ) → k < openings → FirstMark t reach_base k parts (get_or firsts k 0)
  pub ended : FirstMark t suffix_base openings parts (get_or firsts openings 0)
  pub behind : (k : ℕ) → openings < k → get_or firsts k 0 ≡ 0
