-- Bounds of which none is more than another, and the lower of two: a minimum, and what it is of sums and of prices. By cases on what is there.
use mathlib.Core.Path.{◌≡◌, refl, sym, ap, ap₂, ◌∙◌}
use mathlib.Core.Bool.{Bool, true, false, cond}
use Prim.Native.Nat.{ℕ, ◌+◌, min}
use native.Mathlib.Omega.{arith}
use borrow.Author.Tests.{ltb-true, ltb-false}
use lib.Dec.{ltb}
use Rattle.branch.specs.declared.Bound.{Bound}
use Rattle.branch.specs.declared.Bound.TheVariants.{Missing, Sum}
use Rattle.branch.specs.Lower.{add}
use Rattle.branch.specs.Search.{NoMore}
use Rattle.model.specs.LowerBound.{plus, lower_than, lower}

-- ---- no more

-- a bound is no more than itself
pub no_more_refl : (x : Bound) → NoMore x x
no_more_refl Missing = tt
no_more_refl (Sum a) = omega arith

-- a bound no more than a second, which is no more than a third, is no more than the third
pub no_more_trans : (x y z : Bound) → NoMore x y → NoMore y z → NoMore x z
no_more_trans x y Missing h g = tt
no_more_trans x Missing (Sum c) h g = absurd g
no_more_trans Missing (Sum b) (Sum c) h g = absurd h
no_more_trans (Sum a) (Sum b) (Sum c) h g = omega arith

-- two bounds, neither more than the other, are the same
pub same_bound : (x y : Bound) → NoMore x y → NoMore y x → x ≡ y
same_bound Missing Missing h g = refl
same_bound Missing (Sum y) h g = absurd h
same_bound (Sum x) Missing h g = absurd g
same_bound (Sum x) (Sum y) h g = ap Sum (omega arith)

-- ---- the lower of two

-- the lower of two bounds is no more than the first
pub lower_first : (a b : Bound) → NoMore (lower a b) a
lower_first Missing Missing = tt
lower_first Missing (Sum b) = tt
lower_first (Sum a) Missing = omega arith
lower_first (Sum a) (Sum b) = go (ltb b a) refl
  where
    go : (t : Bool) → ltb b a ≡ t → NoMore (cond t (Sum b) (Sum a)) (Sum a)
    go true e = omega (arith, ltb-true b a e)
    go false e = omega arith

-- the lower of two bounds is no more than the second
pub lower_second : (a b : Bound) → NoMore (lower a b) b
lower_second a Missing = tt
lower_second Missing (Sum b) = omega arith
lower_second (Sum a) (Sum b) = go (ltb b a) refl
  where
    go : (t : Bool) → ltb b a ≡ t → NoMore (cond t (Sum b) (Sum a)) (Sum b)
    go true e = omega arith
    go false e = omega (arith, ltb-false b a e)

-- where neither of two is less, nor is the lower
pub lower_both : (c a b : Bound) → NoMore c a → NoMore c b → NoMore c (lower a b)
lower_both c a b h g = go (lower_than a b)
  where
    go : (t : Bool) → NoMore c (cond t b a)
    go true = g
    go false = h

-- of two that are there the lower is the minimum
pub lower_min : (a b : ℕ) → lower (Sum a) (Sum b) ≡ Sum (min a b)
lower_min a b = go (ltb b a) refl
  where
    go : (t : Bool) → ltb b a ≡ t → cond t (Sum b) (Sum a) ≡ Sum (min a b)
    go true e = ap Sum (omega (arith, ltb-true b a e))
    go false e = ap Sum (omega (arith, ltb-false b a e))

-- the order of the two does not matter
pub lower_comm : (a b : Bound) → lower a b ≡ lower b a
lower_comm a b = same_bound (lower a b) (lower b a) (lower_both (lower a b) b a (lower_second a b) (lower_first a b)) (lower_both (lower b a) a b (lower_second b a) (lower_first b a))

-- nor which two of three come first
pub lower_assoc : (a b c : Bound) → lower (lower a b) c ≡ lower a (lower b c)
lower_assoc a b Missing = refl
lower_assoc a Missing (Sum c) = refl
lower_assoc Missing (Sum b) (Sum c) = go (ltb c b)
  where
    go : (t : Bool) → cond t (Sum c) (Sum b) ≡ lower Missing (cond t (Sum c) (Sum b))
    go true = refl
    go false = refl
lower_assoc (Sum a) (Sum b) (Sum c) =
    ap (λ (x : Bound). lower x (Sum c)) (lower_min a b) ∙ lower_min (min a b) c ∙ ap Sum (omega arith) ∙ sym (lower_min a (min b c)) ∙ ap (lower (Sum a)) (sym (lower_min b c))

-- (a ⊓ b) ⊓ (c ⊓ d) ≡ (a ⊓ c) ⊓ (b ⊓ d)
pub lower_swap : (a b c d : Bound) → lower (lower a b) (lower c d) ≡ lower (lower a c) (lower b d)
lower_swap a b c d =
    lower_assoc a b (lower c d)
    ∙ ap (lower a) (sym (lower_assoc b c d) ∙ ap (λ (x : Bound). lower x d) (lower_comm b c) ∙ lower_assoc c b d)
    ∙ sym (lower_assoc a c (lower b d))

-- ---- of prices and sums

-- a price more on the lower of two is the lower of the two with that price more
pub plus_lower : (p : ℕ) (a b : Bound) → plus p (lower a b) ≡ lower (plus p a) (plus p b)
plus_lower p a Missing = refl
plus_lower p Missing (Sum b) = refl
plus_lower p (Sum a) (Sum b) = ap (plus p) (lower_min a b) ∙ ap Sum (omega arith) ∙ sym (lower_min (p + a) (p + b))

-- a price that is there
pub add_plus : (c : ℕ) (e : Bound) → add (Sum c) e ≡ plus c e
add_plus c Missing = refl
add_plus c (Sum x) = refl

-- nothing more to pay
pub plus_0 : (x : Bound) → plus 0 x ≡ x
plus_0 Missing = refl
plus_0 (Sum a) = ap Sum (omega arith)

-- a bound and a missing one are missing
pub add_missing : (x : Bound) → add x Missing ≡ Missing
add_missing Missing = refl
add_missing (Sum a) = refl

-- bounds are added in any order
pub add_comm : (a b : Bound) → add a b ≡ add b a
add_comm Missing Missing = refl
add_comm Missing (Sum b) = refl
add_comm (Sum a) Missing = refl
add_comm (Sum a) (Sum b) = ap Sum (omega arith)

-- so a price may stand behind
pub plus_sum : (e : Bound) (x : ℕ) → add e (Sum x) ≡ plus x e
plus_sum e x = add_comm e (Sum x) ∙ add_plus x e

-- a bound added to the lower of two is the lower of the two sums
pub add_lower : (c a b : Bound) → add c (lower a b) ≡ lower (add c a) (add c b)
add_lower Missing a b = refl
add_lower (Sum c) a b = add_plus c (lower a b) ∙ plus_lower c a b ∙ sym (ap₂ lower (add_plus c a) (add_plus c b))

-- and the other way round
pub lower_add : (a b c : Bound) → add (lower a b) c ≡ lower (add a c) (add b c)
lower_add a b c = add_comm (lower a b) c ∙ add_lower c a b ∙ ap₂ lower (add_comm c a) (add_comm c b)
