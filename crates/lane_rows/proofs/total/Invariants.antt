use Prim.Native.Nat.{ℕ, ◌+◌, ◌*◌, ◌≤◌}
use mathlib.Core.Path.{◌≡◌}
use mathlib.Core.List.{List}
use lib.ListN.{get_or}
use Rattle.lane_rows.specs.Layout.{inf}
use Rattle.lane_rows.specs.Rows.{sum_lanes}
use Rattle.lane_rows.proofs.total.Given as goal

pub record Four (acc : List ℕ) (fours a b c d k : ℕ) : Type 0 where
  pub inside : k ≤ fours
  pub first : a ≤ k * inf
  pub second : b ≤ k * inf
  pub third : c ≤ k * inf
  pub fourth : d ≤ k * inf
  pub all : a + b + c + d ≡ sum_lanes (k * 4) (λ (q : ℕ). get_or acc q 0)

abbrev pub invariant-loop-k : goal.invariant-loop-k
invariant-loop-k l = Four l.acc l.fours l.a l.b l.c l.d l.k
