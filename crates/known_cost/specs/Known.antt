-- The walk that knows a cost before its first node: it looks for full nodes that cost less. Of trees of any shape.
use Rattle.std.specs.Prelude.{false, [], ℕ, length}
use Rattle.branch.specs.Search.{Tree, plan, walk, Limited, limited}

-- the state before the first node where a cost is known
abbrev pub knowing : ℕ → Limited
knowing cost = record { count = 0; over = false; incumbent = plan cost [] }

-- the walk with at most `limit` nodes that knows `cost`: a node is dropped if its estimate is not less
abbrev pub walk_under : Tree → ℕ → ℕ → Limited
walk_under t cost limit = limited limit t [] (knowing cost)

-- the number of nodes of the same without a limit
abbrev pub count_under : Tree → ℕ → ℕ
count_under t cost = length (walk t [] (plan cost [])).nodes
