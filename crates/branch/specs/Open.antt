-- E6.1. "the number of points of a walk that drops a point only if its estimate is missing", for trees of any shape.
use Rattle.std.specs.Prelude.{ℕ, ◌+◌, Bool, true, false, cond}
use Rattle.branch.specs.declared.Bound.{Bound}
use Rattle.branch.specs.declared.Bound.TheVariants.{Missing, Sum}
use Rattle.branch.specs.Search.{Tree, full, ask}

-- a bound is not missing
abbrev pub present : Bound → Bool
present Missing = false
present (Sum n) = true

-- W6. "Each point reached counts one"; E6.1. "a walk that drops a point only if its estimate is missing": from any other both points below are walked
unfoldable pub open_nodes : Tree → ℕ
open_nodes (full e) = 1
open_nodes (ask e t) = cond (present e) (1 + open_nodes (t false) + open_nodes (t true)) 1
