-- Filling the tables: lane by lane, then the fees, the number of openings and, part by part, the terms. What is not named stays as it was.
use Rattle.std.specs.Prelude.{ℕ, ◌+◌, ◌-◌, ◌*◌, ◌<◌, ◌≤◌, min, max, ◌≡◌, Bool, true, cond, List, [], length, get_or, take, ℤ, pos}
use Rattle.branch.specs.Lower.{largest}
use Rattle.model.specs.Model.{within}
use Rattle.model.specs.LastYes.{mark_in}
use Rattle.least.specs.Suffix.{table_size, cell, code_of}
use Rattle.search_tables.specs.Arrays.{lane_part, column_of}
use Rattle.lane_rows.specs.Layout.{lane_count_lem, top, dear, inf, lane_rows_lem, tables_size, triangle, row_place, term_base, term_place}
use Rattle.lane_rows.specs.Sheet.{Column, Sheet}
use Rattle.lane_rows.specs.Tables.{Coded, Lane, fee_from}

-- number i of those that begin at `at` and stand `step` apart
abbrev pub step_place : ℕ → ℕ → ℕ → ℕ
step_place at step i = at + i * step

-- number i of row j of a triangle that begins at `base` and has its numbers `step` apart
abbrev pub step_rows : ℕ → ℕ → ℕ → ℕ → ℕ
step_rows base step j i = step_place base step (triangle j + i)

-- the places (j, i), i at most j and j below n, hold what f says, and every other place keeps its number
pub record Triangle (at : ℕ → ℕ → ℕ) (f : ℕ → ℕ → ℕ) (n : ℕ) (before after : List ℕ) : Type 0 where
  pub size : length after ≡ length before
  pub done : (j i : ℕ) → i ≤ j → j < n → get_or after (at j i) 0 ≡ f j i
  pub rest : (x : ℕ) → ((j i : ℕ) → i ≤ j → j < n → x ≡ at j i → ⊥) → get_or after x 0 ≡ get_or before x 0

-- a number of a part's own table, as the tables have it
abbrev pub own_of : List ℕ → ℕ → ℕ → ℕ
own_of tab j i = min (get_or tab (cell j i) 0) inf

-- is opening j in reach of mark i
abbrev pub reach_of : ℤ → ℤ → List ℤ → ℕ → ℕ → ℕ
reach_of life first ss j i = cond (within life (mark_in first ss i) (get_or ss j (pos 0))) 0 inf

-- the column of one part, by its life, the position of the change before the first, and its prices
abbrev pub column : ℤ → ℤ → List ℕ → Column
column life first ps = record { life = life; first = first; prices = ps }

-- what filling lane q asks of one part's prices and flags, and of its own table
pub record LaneAsks (ps : List ℕ) (fs : List Bool) (q : ℕ) (tab : List ℕ) : Type 0 where
  pub room : table_size ≤ length tab
  pub allowed : (k : ℕ) → get_or fs k true ≡ true
  pub cheap : (j : ℕ) → get_or ps j 0 ≤ dear
  pub lane : q < lane_count_lem

-- lane q is right for a column, and nothing else moved
pub record LaneFilled (end : ℤ) (ss : List ℤ) (col : Column) (t t' : List ℕ) (q : ℕ) : Type 0 where
  pub lane : Lane end ss col t' q
  pub size : length t' ≡ length t
  pub rest : (x : ℕ) → ((y : ℕ) → y < lane_rows_lem → x ≡ row_place y q → ⊥) → get_or t' x 0 ≡ get_or t x 0

-- the first q lanes are right for the parts of the arrays
pub record Lanes (e : ℤ) (ss : List ℤ) (ls rs ps t : List ℕ) (q : ℕ) : Type 0 where
  pub size : length t ≡ tables_size
  pub right : (r : ℕ) → r < q → Lane e ss (column_of (lane_part (length ss) ls rs ps r)) t r

-- the numbers of a triangle are now the larger of what they were and a part's least fees, and nothing else moved
abbrev pub Raised : Sheet → Column → (ℕ → ℕ → ℕ) → List ℕ → List ℕ → Type 0
Raised sheet col at t t' = Triangle at (λ j i. max (get_or t (at j i) 0) (min (code_of (fee_from sheet j i col [])) inf)) (length sheet.positions + 1) t t'

-- the terms are now the largest over the first q parts, and nothing before them moved
pub record Terms (sheet : Sheet) (t t' : List ℕ) (q : ℕ) : Type 0 where
  pub size : length t' ≡ length t
  pub right : (j i : ℕ) → i ≤ j → j ≤ length sheet.positions → Coded (top * (length sheet.positions - j)) (get_or t' (term_place j i) 0) (largest (fee_from sheet j i) (take q sheet.columns) [])
  pub rest : (x : ℕ) → x < term_base → get_or t' x 0 ≡ get_or t x 0
