-- The rows of a triangle: how many stand before a level, and that each level's stand before the next.
use Prim.Native.Nat.{ℕ, zero, suc, ◌+◌, ◌*◌, ◌≤◌, ◌<◌}
use mathlib.Core.Path.{◌≡◌, refl}
use native.Mathlib.Omega.{arith}
use native.Mathlib.Decide.{dec_lt}
use native.Mathlib.Numerals.{add-one}
use native.Mathlib.Nat.{mul-add, add-mul}
use Rattle.lane_rows.specs.Layout.{triangle, level_rows}

-- twice as many, as the code finds them
pub triangle_twice : (j : ℕ) → triangle j * 2 ≡ j * (j + 1)
unfolding triangle
triangle_twice zero = refl
triangle_twice (suc j) = omega (arith, triangle_twice j, add-mul j 1 (suc j + 1), mul-add j (j + 1) 1)

-- the rows before the next level are those before level j and its own j + 1
pub triangle_next : (j : ℕ) → triangle (j + 1) ≡ triangle j + (j + 1)
unfolding triangle
triangle_next j = rw (add-one j) (omega arith)

-- a row of a level stands before those of each later level
pub row_below : (j i n : ℕ) → i ≤ j → j < n → triangle j + i < triangle n
unfolding triangle
row_below j i zero h l = absurd (omega arith)
row_below j i (suc n) h l = go (dec_lt j n) (λ g. row_below j i n h g)
  where
    go : Dec (j < n) → (j < n → triangle j + i < triangle n) → triangle j + i < triangle n + suc n
    go (yes g) f = omega (arith, f g)
    go (no g) f = let z : j ≡ n = omega (arith, g) in rw z (omega arith)

-- and before the end
pub row_inside : (j i n : ℕ) → i ≤ j → j < n → triangle j + i < level_rows n
row_inside j i n h l = omega (arith, row_below j i n h l, triangle_twice n)
