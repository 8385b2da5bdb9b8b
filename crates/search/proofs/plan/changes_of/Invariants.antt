use Prim.Native.Nat.{ℕ, ◌<◌}
use mathlib.Core.Path.{◌≡◌}
use mathlib.Core.Bool.{Bool}
use mathlib.Core.List.{List}
use lib.ListN.{length, get_or}
use denote.Ref.{MutBor}
use Rattle.search.specs.Plan.{no_row}
use Rattle.search.proofs.plan.changes_of.Given as goal

abbrev pub invariant-loop-q : goal.invariant-loop-q
invariant-loop-q g l =
    (length l.tab ≡ length l.initial.tab)
    × (length l.row-items ≡ l.m)
    × ((f : ℕ → List Bool) → ((q : ℕ) (p s : MutBor (List ℕ)) (r : List Bool) → q < l.m → goal.F-post g l.at q p r s → r ≡ f q) → (k : ℕ) → k < l.q → (get_or l.row-items k no_row).at ≡ f k)
