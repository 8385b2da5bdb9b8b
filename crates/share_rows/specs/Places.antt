-- Where the numbers of a table of shares stand: for each thing, opening and lane what the lane bears; for each thing which lanes take it; the removals, and how many they are.
use Rattle.std.specs.Prelude.{ℕ, ◌+◌, ◌-◌, ◌*◌, cond, ltb}
use Rattle.model.specs.Limits.{most_openings, most_parts}
use Rattle.lane_rows.specs.Layout.{lane_count_lem, inf}

-- how many things there are at an opening at most: its stop, and a removal for each part
abbrev pub most_things : ℕ
most_things = most_parts + 1

-- what lane q bears of thing m at opening k
abbrev pub bear_place : ℕ → ℕ → ℕ → ℕ
bear_place m k q = (m * most_openings + k) * lane_count_lem + q

-- which lanes take a thing stands behind them
abbrev pub take_base : ℕ
take_base = most_things * most_openings * lane_count_lem

-- whether lane q takes thing m: 1 if it does
abbrev pub take_place : ℕ → ℕ → ℕ
take_place m q = take_base + m * lane_count_lem + q

-- the removals stand behind them
abbrev pub removal_base : ℕ
removal_base = take_base + most_things * lane_count_lem

-- the removal of holding part b
abbrev pub removal_place : ℕ → ℕ
removal_place b = removal_base + b

-- how many holding parts there are
abbrev pub holds_place : ℕ
holds_place = removal_base + most_parts

-- how many numbers a table of shares has
abbrev pub share_size : ℕ
share_size = holds_place + 1

-- ---- a lane's number at a stop

-- with a share less, where it is a price
abbrev pub eased_of : ℕ → ℕ → ℕ
eased_of v s = cond (ltb v inf) (v - s) v
