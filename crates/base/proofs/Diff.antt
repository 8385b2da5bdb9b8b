-- The difference of two small integers fits an i32.
use Prim.Native.Nat.{ℕ, zero, suc, ◌+◌, ◌-◌, ◌≤◌, ◌<◌, ◌^◌, max}
use mathlib.Core.Path.{◌≡◌, refl}
use mathlib.Core.Bool.{Bool, true, false, cond}
use native.Mathlib.Omega.{arith}
use lib.Dec.{ltb}
use lib.IntN.{ℤ, pos, negsuc, sub_ℕ, ◌-ℤ◌}
use lib.Signed.{mag}
use mir.Syntax.{w32}
use mir.Val.{SFits, to_z, of_z}
use mir.Facts.{to_z-of_z}
use Rattle.base.specs.Signed.{Bits31}

mag_subℕ : (a b : ℕ) → mag (sub_ℕ a b) ≤ max a b
mag_subℕ a b = go (ltb a b) refl
  where
    go : (t : Bool) → ltb a b ≡ t → mag (cond t (negsuc (b - suc a)) (pos (a - b))) ≤ max a b
    go true e = omega arith
    go false e = omega arith

-- the size of a difference is at most the two sizes and one
pub mag_sub : (a b : ℤ) → mag (a -ℤ b) ≤ mag a + mag b + 1
mag_sub (pos a) (pos zero) = omega arith
mag_sub (pos a) (pos (suc b)) = omega (arith, mag_subℕ a (suc b))
mag_sub (pos a) (negsuc b) = omega arith
mag_sub (negsuc a) (pos zero) = omega (arith, mag_subℕ 0 (suc a))
mag_sub (negsuc a) (pos (suc b)) = omega arith
mag_sub (negsuc a) (negsuc b) = omega (arith, mag_subℕ (suc b) (suc a))

-- the difference of two numbers of 31 bits fits an i32
pub diff_fits : (a b : ℤ) → Bits31 a → Bits31 b → SFits w32 (a -ℤ b)
diff_fits a b p q = record { sfits = omega (arith, mag_sub a b) }

-- a signed local holds bits; what is read back from the bits of z is z
pub back : (z : ℤ) → mag z < 2 ^ 31 → to_z w32 (of_z w32 z) ≡ z
back z h = to_z-of_z {w = w32} (record { sfits = h })

-- a number of 31 bits, read back from its bits, has 31 bits too
pub small_back : (z : ℤ) → Bits31 z → Bits31 (to_z w32 (of_z w32 z))
small_back z h = rw (back z (omega arith)) h
