-- A name that is no longer than the list it is the first part of.
use Prim.Native.Nat.{ℕ, zero, suc, ◌≤◌, min}
use mathlib.Core.Path.{◌≡◌, refl, sym, ap, ◌∙◌}
use mathlib.Core.Bool.{Bool}
use mathlib.Core.List.{List, [], ◌∷◌}
use native.Mathlib.Omega.{arith}
use native.Mathlib.Decide.{dec_le}
use lib.ListN.{length, take}

take_past : (n : ℕ) (l : List Bool) → length l ≤ n → take n l ≡ l
take_past zero [] h = refl
take_past zero (b ∷ l) h = absurd (omega arith)
take_past (suc n) [] h = refl
take_past (suc n) (b ∷ l) h = ap (λ (x : List Bool). b ∷ x) (take_past n l (omega arith))

-- a list of n has the same first s where s is cut to at most n
pub take_min : (s n : ℕ) (l : List Bool) → length l ≡ n → take (min s n) l ≡ take s l
take_min s n l e = go (dec_le s n)
  where
    go : Dec (s ≤ n) → take (min s n) l ≡ take s l
    go (yes h) = let z : min s n ≡ s = omega arith in ap (λ (k : ℕ). take k l) z
    go (no h) = let z : min s n ≡ n = omega arith in ap (λ (k : ℕ). take k l) z ∙ take_past n l (omega (arith, e)) ∙ sym (take_past s l (omega (arith, e)))
