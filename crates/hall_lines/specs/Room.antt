-- How much room an estimate has.
use Rattle.std.specs.Prelude.{ℕ, ◌+◌, ◌*◌, ◌^◌, ◌<◌}
use Rattle.lane_rows.specs.Layout.{lane_count_lem, inf}

-- what a line's part sums and term can add to an estimate fits beside it
abbrev pub roomy : ℕ → Type 0
roomy rest = rest + inf + lane_count_lem * inf + inf < 2 ^ 64

-- the most that a line's own estimate is
abbrev pub most_own : ℕ
most_own = 17648000000
