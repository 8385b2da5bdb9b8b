use Prim.Native.Nat.{ℕ, ◌<◌}
use mathlib.Core.Path.{◌≡◌}
use lib.ListN.{get_or}
use Rattle.base.specs.Filled.{FilledBy}
use Rattle.search_tables.specs.Fill.{step_place}
use Rattle.search_tables.proofs.rows.turn_row.Given as goal

abbrev pub invariant-loop-i : goal.invariant-loop-i
invariant-loop-i g l =
    (h : ℕ → ℕ) → ((i v : ℕ) → i < l.n → goal.F-post g l.f i (get_or l.initial.t (step_place l.at l.stride i) 0) v → v ≡ h i) → FilledBy (step_place l.at l.stride) h l.i l.initial.t l.t
