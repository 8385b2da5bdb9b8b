-- What the tables of a sheet hold.
use Rattle.std.specs.Prelude.{ℕ, ◌-◌, ◌*◌, ◌<◌, ◌≤◌, ◌≡◌, Bool, cond, List, [], ltb, length, get_or, drop, ℤ, pos}
use Rattle.branch.specs.declared.Bound.{Bound}
use Rattle.branch.specs.declared.Bound.TheVariants.{Missing, Sum}
use Rattle.branch.specs.Lower.{largest}
use Rattle.model.specs.Model.{within}
use Rattle.model.specs.LowerBound.{least_of_lem, offers}
use Rattle.model.specs.LastYes.{Climbs, mark_in}
use Rattle.lane_rows.specs.Layout.{lane_count_lem, top, dear, inf, suffix_base, reach_base, place, price_place, fee_place, count_place, lanes_in, term_place, tables_size}
use Rattle.lane_rows.specs.Sheet.{Column, Sheet, part_columns, no_column}
use Rattle.model.specs.Limits.{most_openings}

-- the price that a number stands for
abbrev pub value_of : ℕ → Bound
value_of n = cond (ltb n inf) (Sum n) Missing

-- s where the number n is a price, else Missing
abbrev pub sum_where : ℕ → ℕ → Bound
sum_where n s = cond (ltb n inf) (Sum s) Missing

-- n stands for e, and a price is at most b
abbrev pub Coded : ℕ → ℕ → Bound → Type 0
Coded b n Missing = n ≡ inf
Coded b n (Sum x) = (n ≡ x) × (x ≤ b)

-- lane q of the tables t is right for a column: the least prices from an opening on after a mark, which openings are in reach of a mark, the prices
pub record Lane (end : ℤ) (ss : List ℤ) (col : Column) (t : List ℕ) (q : ℕ) : Type 0 where
  pub suffix : (j i : ℕ) → i ≤ j → j ≤ length ss
      → Coded (dear * (length ss - j)) (get_or t (place suffix_base j i q) 0) (least_of_lem col.life end (mark_in col.first ss i) (drop j (offers ss col.prices [])))
  pub reach : (j i : ℕ) → i ≤ j → j < length ss → get_or t (place reach_base j i q) 0 ≡ cond (within col.life (mark_in col.first ss i) (get_or ss j (pos 0))) 0 inf
  pub price : (j : ℕ) → j < length ss → get_or t (price_place j q) 0 ≡ get_or col.prices j 0
  pub cheap : (j : ℕ) → get_or col.prices j 0 ≤ dear

-- two columns with the same life and the same first change
pub record Alike (a b : Column) : Type 0 where
  pub life : b.life ≡ a.life
  pub first : b.first ≡ a.first

-- one part's least fee of openings j and later that keeps it after mark i, at any node
abbrev pub fee_from : Sheet → ℕ → ℕ → Column → List Bool → Bound
fee_from sheet j i col p = least_of_lem col.life sheet.end (mark_in col.first sheet.positions i) (drop j (offers sheet.positions sheet.fees []))

-- the rows of a sheet's tables: a lane for each column, the fees and the number of openings; a column past the last part goes with the first part's
pub record Tables (sheet : Sheet) (t : List ℕ) : Type 0 where
  pub size : length t ≡ tables_size
  pub few : length sheet.positions ≤ most_openings
  pub wide : length sheet.columns ≡ lanes_in t
  pub some : 0 < lanes_in t
  pub narrow : lanes_in t ≤ lane_count_lem
  pub paid : length sheet.fees ≡ length sheet.positions
  pub lanes : (q : ℕ) → q < lanes_in t → Lane sheet.end sheet.positions (get_or sheet.columns q no_column) t q
  pub fees : (j : ℕ) → j < length sheet.positions → get_or t (fee_place j) 0 ≡ get_or sheet.fees j 0
  pub fair : (j : ℕ) → get_or sheet.fees j 0 ≤ top
  pub count : get_or t count_place 0 ≡ length sheet.positions
  pub real : sheet.parts ≤ lanes_in t
  pub begun : 0 < sheet.parts
  pub spare : (q : ℕ) → sheet.parts ≤ q → q < lanes_in t → Alike (get_or sheet.columns 0 no_column) (get_or sheet.columns q no_column)
  pub climbs : (q : ℕ) → q < lanes_in t → Climbs sheet.end (get_or sheet.columns q no_column).first sheet.positions

-- E4's terms in the tables, for each number of decided openings and each mark of the last yes, which the walk without holders alone reads
pub record FeeTerms (sheet : Sheet) (t : List ℕ) : Type 0 where
  pub right : (j i : ℕ) → i ≤ j → j ≤ length sheet.positions → Coded (top * (length sheet.positions - j)) (get_or t (term_place j i) 0) (largest (fee_from sheet j i) (part_columns sheet) [])
