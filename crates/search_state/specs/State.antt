-- The code's state as the search's.
use Rattle.std.specs.Prelude.{ℕ, zero, suc, ◌+◌, ◌/◌, ◌%◌, min, Bool, cond, List, [], ltb, leb, eqb, Option, Some, None}
use Rattle.branch.specs.declared.Bound.{Bound}
use Rattle.branch.specs.declared.Bound.TheVariants.{Missing, Sum}
use Rattle.branch.specs.Search.{Incumbent, none, plan, snoc, Limited}
use Rattle.search_state.specs.declared.Search.{Search}
use Rattle.search_state.specs.declared.Solved.{Solved}
use Rattle.lane_rows.specs.Tables.{sum_where}

-- k decisions in a number, the latest in its lowest bit
unfoldable pub bits : ℕ → ℕ → List Bool
bits zero m = []
bits (suc k) m = snoc (bits k (m / 2)) (eqb (m % 2) 1)

-- the cost where no full plan is found yet
abbrev pub no_cost : ℕ
no_cost = 18446744073709551615

-- the best full plan so far, whose name is l
abbrev pub incumbent_of : List Bool → Search → Incumbent
incumbent_of l s = cond (ltb s.cost no_cost) (plan s.cost l) none

-- a node was reached beyond the limit
abbrev pub over_s : ℕ → Search → Bool
over_s limit s = ltb limit s.count

-- the state as the search has it, with a limit and what the best full plan's decisions are the name of
abbrev pub view_of : ℕ → (ℕ → List Bool) → Search → Limited
view_of limit name s = record { count = min s.count limit; over = over_s limit s; incumbent = incumbent_of (name s.mask) s }

-- the same where there are n openings
abbrev pub view : ℕ → ℕ → Search → Limited
view limit n s = view_of limit (bits n) s

-- a bound e is less than the incumbent's cost
abbrev pub viewed : ℕ → Search → Bool
viewed e s = ltb e s.cost

-- the changes of the state
abbrev pub counted_s : Search → Search
counted_s s = record { count = s.count + 1; cost = s.cost; mask = s.mask }

-- W8. a better full plan is kept: its cost, and its decisions as a number
abbrev pub kept_s : Search → ℕ → ℕ → Search
kept_s s c m = record { count = s.count; cost = c; mask = m }

-- a node is reached: one more, and at most one beyond the limit
abbrev pub reached_s : ℕ → Search → Search
reached_s limit s = cond (over_s limit s) s (counted_s s)

-- the part sums of a node that is walked on, with its fees and its part sums: its bound is less than the incumbent's cost
abbrev pub undropped : ℕ → Bound → Search → Bound
undropped spent Missing s = Missing
undropped spent (Sum x) s = cond (viewed (spent + x) s) (Sum x) Missing

-- W9. the same within the limit; once that is reached, Missing
abbrev pub open_s : ℕ → ℕ → Bound → Search → Bound
open_s limit spent e s = cond (leb limit s.count) Missing (undropped spent e s)

-- another number in the place of one that is there
unfoldable pub instead : ℕ → Bound → Bound
instead d Missing = Missing
instead d (Sum x) = Sum d

-- the fees and term h of a node, if its term is there and part sums of x do not drop it
abbrev pub due_s : ℕ → ℕ → ℕ → ℕ → Search → Bound
due_s limit spent h x s = instead (spent + h) (open_s limit (spent + h) (sum_where h x) s)

-- the state at the end, with the floor
abbrev pub solved_s : Bound → ℕ → Search → Solved
solved_s floor limit s = record { floor = floor; count = min s.count limit; over = over_s limit s; cost = cond (ltb s.cost no_cost) (Some s.cost) None; mask = s.mask }

-- the best full plan, if there is one: its cost, and its name l
abbrev pub found_as : List Bool → Option ℕ → Incumbent
found_as l None = none
found_as l (Some c) = plan c l

-- what is handed over, as the search has it
abbrev pub limited_s : ℕ → Solved → Limited
limited_s n r = record { count = r.count; over = r.over; incumbent = found_as (bits n r.mask) r.cost }
