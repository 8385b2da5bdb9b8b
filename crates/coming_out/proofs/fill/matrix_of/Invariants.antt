use mathlib.Core.Bool.{Bool, false}
use mathlib.Core.List.{List}
use Prim.Native.Nat.{ℕ, ◌<◌}
use mathlib.Core.Path.{◌≡◌}
use lib.ListN.{length}
use Rattle.model.specs.Limits.{most_parts}
use Rattle.coming_out.specs.Rows.{Row, Rows}
use Rattle.coming_out.proofs.fill.matrix_of.Given as goal

abbrev pub invariant-loop-q : goal.invariant-loop-q
invariant-loop-q g l = (f : ℕ → List Bool) → ((q : ℕ) (xs : List Bool) → q < l.m → length xs ≡ most_parts → goal.F-post g l.row q xs → Row false (f q) xs) → Rows l.q f l.matrix
