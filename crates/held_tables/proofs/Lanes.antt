-- The lanes of the arrays: one for each part, and those that fill up a four; without their classes they are the columns of the plain sheet.
use Prim.Native.Nat.{ℕ, zero, suc, ◌+◌, ◌<◌}
use mathlib.Core.Path.{◌≡◌, refl, ap, ◌∙◌}
use mathlib.Core.List.{List, ◌∷◌, map}
use native.Mathlib.Omega.{arith}
use lib.ListN.{length, get_or}
use Rattle.search_tables.specs.Arrays.{lane_part, column_of, columns_from}
use Rattle.lane_rows.specs.Sheet.{Column}
use Rattle.held_rows.specs.Held.{HeldColumn, column_in, no_lane}
use Rattle.held_tables.specs.Sheet.{lanes_from}

module _ (n : ℕ) (ls rs ps cs : List ℕ) where
  -- lane q
  abbrev pub lane_at : ℕ → HeldColumn
  lane_at q = record { column = column_of (lane_part n ls rs ps q); class = get_or cs q 0 }

  -- k lanes from q on are k lanes
  pub lanes_length : (q k : ℕ) → length (lanes_from n ls rs ps cs q k) ≡ k
  unfolding lanes_from
  lanes_length q zero = refl
  lanes_length q (suc k) = ap suc (lanes_length (suc q) k)

  lanes_from_lem : (q k i : ℕ) → i < k → get_or (lanes_from n ls rs ps cs q k) i no_lane ≡ lane_at (q + i)
  unfolding lanes_from
  lanes_from_lem q zero i h = absurd (omega arith)
  lanes_from_lem q (suc k) zero h = let z : q ≡ q + 0 = omega arith in ap lane_at z
  lanes_from_lem q (suc k) (suc i) h = let z : suc q + i ≡ q + suc i = omega arith in lanes_from_lem (suc q) k i (omega arith) ∙ ap lane_at z

  -- lane i has the column of part i, or of what fills up a four, and its class
  pub lanes_at : (k i : ℕ) → i < k → get_or (lanes_from n ls rs ps cs 0 k) i no_lane ≡ lane_at i
  lanes_at k i h = let z : 0 + i ≡ i = omega arith in lanes_from_lem 0 k i h ∙ ap lane_at z

  -- the lanes without their classes are the columns of the same parts
  pub columns_are : (q k : ℕ) → map column_in (lanes_from n ls rs ps cs q k) ≡ columns_from n ls rs ps q k
  unfolding lanes_from columns_from
  columns_are q zero = refl
  columns_are q (suc k) = ap (λ (xs : List Column). column_of (lane_part n ls rs ps q) ∷ xs) (columns_are (suc q) k)
