-- A node's name read block by block: the first block of what is left of it, and how long it is.
use Rattle.std.specs.Prelude.{ℕ, zero, suc, ◌+◌, ◌<◌, ◌≡◌, Bool, true, false, List, [], ◌∷◌, length, get_or, take, drop}

-- the first block, where h removals are decided after a yes; d where nothing is decided
abbrev pub first_or : List Bool → ℕ → List Bool → List Bool
first_or d h [] = d
first_or d h (false ∷ p) = false ∷ []
first_or d h (true ∷ p) = true ∷ take h p

-- how many decisions it takes; the last block may have fewer
abbrev pub block_long : ℕ → List Bool → ℕ
block_long h [] = 0
block_long h (false ∷ p) = 1
block_long h (true ∷ p) = h + 1

-- an array with an entry for each of n openings
pub record Entries {A : Type 0} (d : A) (f : ℕ → A) (n : ℕ) (r : List A) : Type 0 where
  pub size : length r ≡ 64
  pub at : (k : ℕ) → k < n → get_or r k d ≡ f k

-- what is left of a name behind k blocks
unfoldable pub rest_at : ℕ → ℕ → List Bool → List Bool
rest_at h zero p = p
rest_at h (suc k) p = drop (block_long h (rest_at h k p)) (rest_at h k p)
