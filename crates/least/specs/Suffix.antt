-- The suffix table of one part: least prices from an opening on, as numbers. 2 ^ 62 and above is Missing.
use Rattle.std.specs.Prelude.{ℕ, ◌+◌, ◌*◌, ◌^◌, ◌≤◌, ◌≡◌, Bool, false, ◌&&◌, cond, List, ltb, length, get_or, drop, ℤ, pos}
use Rattle.branch.specs.declared.Bound.{Bound}
use Rattle.branch.specs.declared.Bound.TheVariants.{Missing, Sum}
use Rattle.model.specs.Limits.{most_openings}
use Rattle.model.specs.Model.{within}
use Rattle.model.specs.LowerBound.{plus, lower, lower_than, least_of_lem, offers}
use Rattle.model.specs.LastYes.{mark_in}

-- a row of the table has a mark for the first life and one for each opening
abbrev pub marks : ℕ
marks = most_openings + 1

-- there is a row for each opening and one past the last: as many as marks
abbrev pub table_size : ℕ
table_size = marks * marks

-- row j, entry i
abbrev pub cell : ℕ → ℕ → ℕ
cell j i = j * marks + i

-- the table's number for Missing
abbrev pub missing : ℕ
missing = 2 ^ 62

-- the number for a bound
abbrev pub code_of : Bound → ℕ
code_of Missing = missing
code_of (Sum n) = n

-- the bound that a number stands for
abbrev pub of_code : ℕ → Bound
of_code n = cond (ltb n missing) (Sum n) Missing

-- the row past the last opening, for the change before at mark i
abbrev pub end_of : ℤ → ℤ → ℤ → List ℤ → ℕ → ℕ
end_of life end first ss i = code_of (cond (within life (mark_in first ss i) end) (Sum 0) Missing)

-- row j from row j + 1, where a change at opening j with what follows costs chg
abbrev pub row_of : ℤ → ℤ → List ℤ → ℕ → Bool → Bound → List ℕ → ℕ → ℕ
row_of life first ss j allowed chg tab i =
    code_of (lower (of_code (get_or tab (cell (j + 1) i) 0)) (cond (allowed && within life (mark_in first ss i) (get_or ss j (pos 0))) chg Missing))

-- rows k and up are right: row j, entry i is the least price over the openings from j on, after mark i
pub record Suffixes (life end first : ℤ) (ss : List ℤ) (ps : List ℕ) (fs : List Bool) (tab : List ℕ) (k : ℕ) : Type 0 where
  pub size : table_size ≤ length tab
  pub rows : (j i : ℕ) → k ≤ j → j ≤ length ss → i ≤ j → get_or tab (cell j i) 0 ≡ code_of (least_of_lem life end (mark_in first ss i) (drop j (offers ss ps fs)))

-- a change at opening k after mark i is strictly lower than none, by the table
abbrev pub changes_by_table : ℤ → ℤ → List ℤ → List ℕ → List Bool → List ℕ → ℕ → ℕ → Bool
changes_by_table life first ss ps fs tab i k =
    lower_than (of_code (get_or tab (cell (k + 1) i) 0))
    (cond (get_or fs k false && within life (mark_in first ss i) (get_or ss k (pos 0))) (plus (get_or ps k 0) (of_code (get_or tab (cell (k + 1) (k + 1)) 0))) Missing)
