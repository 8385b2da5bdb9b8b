-- A line's numbers by level: so many openings are decided.
use Rattle.std.specs.Prelude.{ℕ, ◌+◌, ◌*◌, ◌<◌, ◌≡◌, true, false, List, length, get_or}
use Rattle.held_nodes.specs.declared.Node.{Node}
use Rattle.hall_lines.specs.declared.Level.{Level}
use Rattle.hall_lines.specs.declared.Stop.{Stop}

-- no level
abbrev pub no_level : Level
no_level = record { rows = 0; sums = 0; term = 0; mask = 0 }

-- a line's numbers at a level
abbrev pub level_at : List Level → ℕ → Level
level_at n at = get_or n at no_level

-- how many rows there are at a level
abbrev pub rows_in_lem : List Level → ℕ → ℕ
rows_in_lem n at = (level_at n at).rows

-- the part sums at a level
abbrev pub sums_in : List Level → ℕ → ℕ
sums_in n at = (level_at n at).sums

-- the term at a level
abbrev pub term_in : List Level → ℕ → ℕ
term_in n at = (level_at n at).term

-- the stops at a level, the latest in the lowest bit
abbrev pub mask_in : List Level → ℕ → ℕ
mask_in n at = (level_at n at).mask

-- the first k levels are as before
pub record LevelsKept (n n' : List Level) (k : ℕ) : Type 0 where
  pub size : length n' ≡ length n
  pub below : (i : ℕ) → i < k → level_at n' i ≡ level_at n i

-- a level is written, and none before it
pub record LevelPut (n n' : List Level) (at : ℕ) (l : Level) : Type 0 where
  pub level_is : level_at n' at ≡ l
  pub kept : LevelsKept n n' at

-- the line's node at a level, where h parts hold and `paid` are its fees and removals, which the code does not know of one line
abbrev pub level_node : ℕ → List Level → ℕ → ℕ → Node
level_node h n at paid = record { at = at; rows = rows_in_lem n at; next = h; owed = false; shut = 0; removed = 0; spent = paid; mask = mask_in n at }

-- the line's node at a stop at the opening behind the level, whose removals are being decided
abbrev pub stop_node : List Level → ℕ → ℕ → Stop → Node
stop_node n at paid p = record { at = at + 1; rows = rows_in_lem n at; next = p.next; owed = true; shut = p.shut; removed = p.removed; spent = paid; mask = mask_in n at * 2 + 1 }
