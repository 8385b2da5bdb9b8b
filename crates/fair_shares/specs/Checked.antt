-- A table of shares that comes from outside, and what is kept of it: no share for a lane that does not take the thing, none above the lane's room, and nothing at all of a row that exceeds its fee or removal.
use Rattle.std.specs.Prelude.{ℕ, ◌+◌, ◌-◌, ◌*◌, ◌/◌, ◌%◌, ◌<◌, ◌≤◌, min, ◌≡◌, Bool, false, cond, List, eqb, ltb, leb, length, get_or}
use Rattle.model.specs.Limits.{most_openings, most_parts}
use Rattle.shares.specs.Shares.{Shares}
use Rattle.lane_rows.specs.Layout.{lane_count_lem, dear}
use Rattle.lane_rows.specs.Rows.{sum_lanes}
use Rattle.share_rows.specs.Places.{bear_place, take_base, take_place, removal_place, holds_place, share_size}

-- the shares that a table holds
abbrev pub shares_in : List ℕ → Shares
shares_in x i k m = get_or x (bear_place m k i) 0

-- how many shares a table of them alone has
abbrev pub raw_size : ℕ
raw_size = take_base

-- where the shares of row r begin: row r is that of thing r / 64 at opening r % 64
abbrev pub row_start : ℕ → ℕ
row_start r = r * lane_count_lem

-- ---- what a row offers

-- the most that a lane may bear of each of so many things beside this price
abbrev pub room_of_lem : ℕ → ℕ → ℕ
room_of_lem price things = (dear - price) / things

-- the price of lane q at the opening of row r, of prices that stand 64 a lane
abbrev pub price_in : List ℕ → ℕ → ℕ → ℕ
price_in ps r q = get_or ps (q * most_openings + r % most_openings) 0

-- what is offered for lane q in row r: what the raw table has, where the lane takes the thing, and no more than its room
abbrev pub offer : List ℕ → List ℕ → List ℕ → ℕ → ℕ → ℕ → ℕ
offer raw x ps things r q = cond (eqb (get_or x (take_place (r / most_openings) q) 0) 0) 0 (min (get_or raw (row_start r + q) 0) (room_of_lem (price_in ps r q) things))

-- what row r costs: the fee of its opening, or the removal of its thing
abbrev pub cost_in_lem : List ℕ → List ℕ → ℕ → ℕ
cost_in_lem fs rm r = cond (ltb r most_openings) (get_or fs r 0) (get_or rm (r / most_openings - 1) 0)

-- what is kept of a row: all that is offered, or nothing where that is more than it costs
abbrev pub keep : ℕ → (ℕ → ℕ) → ℕ → ℕ
keep cost f q = cond (leb (sum_lanes lane_count_lem f) cost) (f q) 0

-- what is kept of row r
abbrev pub kept : List ℕ → List ℕ → List ℕ → List ℕ → List ℕ → ℕ → ℕ → ℕ → ℕ
kept raw x ps fs rm things r = keep (cost_in_lem fs rm r) (offer raw x ps things r)

-- the first n rows of x' are what is kept of the raw table, and nothing behind the shares has moved
pub record Kept (raw ps fs rm : List ℕ) (things : ℕ) (x x' : List ℕ) (n : ℕ) : Type 0 where
  pub size : length x' ≡ length x
  pub row : (r q : ℕ) → r < n → q < lane_count_lem → get_or x' (row_start r + q) 0 ≡ kept raw x ps fs rm things r q
  pub rest : (y : ℕ) → take_base ≤ y → get_or x' y 0 ≡ get_or x y 0

-- ---- what is taken

-- does lane q take thing m: the stop, and what its part needs
abbrev pub taken : List Bool → ℕ → ℕ → ℕ → ℕ
taken nd parts m q = cond (eqb m 0) 1 (cond (leb parts q) 0 (cond (get_or nd (q * most_parts + (m - 1)) false) 1 0))

-- the table of shares but for the shares: nd needs, 16 a part, and rm removals of the holding parts
pub record Marked (nd : List Bool) (parts : ℕ) (rm x : List ℕ) : Type 0 where
  pub size : length x ≡ share_size
  pub takes : (m q : ℕ) → m ≤ length rm → q < lane_count_lem → get_or x (take_place m q) 0 ≡ taken nd parts m q
  pub removals : (b : ℕ) → b < length rm → get_or x (removal_place b) 0 ≡ get_or rm b 0
  pub holds : get_or x holds_place 0 ≡ length rm
