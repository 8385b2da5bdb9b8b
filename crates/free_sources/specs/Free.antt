-- Free sources in numbers: each lane's highest number at a level, what the number at a mark lacks of it, and the rows that hold this.
use Rattle.std.specs.Prelude.{ℕ, zero, suc, ◌+◌, ◌-◌, ◌<◌, ◌≡◌, max, cond, ltb, List, length, get_or}
use Rattle.lane_rows.specs.Layout.{lane_count_lem, inf, lanes_in, suffix_base, place, row_place, mark_place, stack_size}
use Rattle.lane_rows.specs.Rows.{Memo}

-- the higher of a number and one more, if that is a price
abbrev pub higher : ℕ → ℕ → ℕ
higher v e = cond (ltb e inf) (max v e) v

-- lane q's highest number at level l, over its first k marks
unfoldable pub highest_in : List ℕ → ℕ → ℕ → ℕ → ℕ
highest_in t l q zero = 0
highest_in t l q (suc k) = higher (highest_in t l q k) (get_or t (place suffix_base l k q) 0)

-- what a number lacks of the highest; of none there is no source
abbrev pub lacks : ℕ → ℕ → ℕ
lacks top e = cond (ltb e inf) (top - e) inf

-- the first n rows are the free sources of level l at its first n marks, and their memo is right
pub record FreeRows (t : List ℕ) (l : ℕ) (w : List ℕ) (n : ℕ) : Type 0 where
  pub size : length w ≡ stack_size
  pub rows : (k q : ℕ) → k < n → q < lane_count_lem → get_or w (row_place k q) 0 ≡ lacks (highest_in t l q (l + 1)) (get_or t (place suffix_base l k q) 0)
  pub marks : (k : ℕ) → k < n → get_or w (mark_place k) 0 ≡ k
  pub memo : lanes_in t ≡ lane_count_lem → Memo t w n
