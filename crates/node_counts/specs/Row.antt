-- One row of the count's table: the nodes below a node with j openings decided, by its last yes.
use Rattle.std.specs.Prelude.{ℕ, ◌+◌, ◌-◌, ◌≤◌, ◌≡◌, Bool, cond, List, length, get_or}
use Rattle.longest_walk.specs.Longest.{capped}
use Rattle.longest_walk.specs.Count.{count_from}

-- the node itself, those from no on if it is in time, else one, and those from yes on
abbrev pub sum_of : Bool → ℕ → ℕ → ℕ
sum_of test declined stopped = capped (1 + cond test declined 1 + stopped)

-- what stands for the last yes m in the row of j, from the row of j + 1
abbrev pub noted : (ℕ → ℕ → Bool) → ℕ → List ℕ → ℕ → ℕ
noted test j row m = sum_of (test m (j + 1)) (get_or row m 0) (get_or row (j + 1) 0)

-- the row of j, of n openings: a number for each last yes up to j
pub record Row (test : ℕ → ℕ → Bool) (n j : ℕ) (row : List ℕ) : Type 0 where
  pub size : n + 1 ≤ length row
  pub at : (m : ℕ) → m ≤ j → get_or row m 0 ≡ count_from test (n - j) j m
