use Prim.Native.Nat.{ℕ, ◌+◌, ◌<◌, ◌≤◌}
use mathlib.Core.Path.{◌≡◌}
use lib.ListN.{get_or}
use Rattle.lane_rows.specs.Layout.{triangle}
use Rattle.search_tables.specs.Fill.{Triangle, step_place}
use Rattle.search_tables.proofs.rows.turn_rows.Given as goal

abbrev pub invariant-loop-j : goal.invariant-loop-j
invariant-loop-j g l =
    (h : ℕ → ℕ → ℕ) → ((j i v : ℕ) → i ≤ j → j < l.m → goal.F-post g l.f j i (get_or l.initial.t (step_place l.base l.stride (triangle j + i)) 0) v → v ≡ h j i)
    → Triangle (λ (j i : ℕ). step_place l.base l.stride (triangle j + i)) h l.j-counter l.initial.t l.t
