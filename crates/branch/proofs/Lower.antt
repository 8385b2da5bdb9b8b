-- How a bound comes to be a lower bound: it never falls as more is decided. A sum, and the largest, of bounds that never fall never falls, by cases; and what a sum, or the largest, of bounds is made of.
use Prim.Native.Nat.{ℕ, ◌+◌, ◌≤◌, max}
use native.Mathlib.Omega.{arith}
use mathlib.Core.Path.{◌≡◌, refl, ap, ◌∙◌}
use mathlib.Core.Bool.{Bool}
use mathlib.Core.List.{List, [], ◌∷◌, ◌++◌}
use Rattle.branch.specs.declared.Bound.{Bound}
use Rattle.branch.specs.declared.Bound.TheVariants.{Missing, Sum}
use Rattle.branch.specs.Search.{NoMore}
use Rattle.branch.specs.Lower.{add, total, larger, largest}
use Rattle.branch.proofs.Bounds.{no_sum_lem}

-- the bound of a node is no more than that of any node below it
abbrev pub Rises : (List Bool → Bound) → Type 0
Rises bound = (p t : List Bool) → NoMore (bound p) (bound (p ++ t))

-- the sum of two bounds is no more than the sum of two that are each no less
pub add_mono : (x₁ y₁ x₂ y₂ : Bound) → NoMore x₁ y₁ → NoMore x₂ y₂ → NoMore (add x₁ x₂) (add y₁ y₂)
add_mono x₁ Missing x₂ y₂ h g = tt
add_mono x₁ (Sum b) x₂ Missing h g = tt
add_mono Missing (Sum b) x₂ (Sum d) h g = absurd h
add_mono (Sum a) (Sum b) Missing (Sum d) h g = absurd g
add_mono (Sum a) (Sum b) (Sum c) (Sum d) h g = omega arith

-- a sum over parts never falls where no part's bound does
pub total_mono : {A : Type 0} (f : A → List Bool → Bound) (rest : List A) (p q : List Bool) → ((a : A) → NoMore (f a p) (f a q)) → NoMore (total f rest p) (total f rest q)
total_mono f [] p q h = omega arith
total_mono f (a ∷ rest) p q h = add_mono (f a p) (f a q) (total f rest p) (total f rest q) (h a) (total_mono f rest p q h)

-- ---- a sum of bounds that is there: both are

-- both bounds are there, and their numbers make the sum
pub record Split (x y : Bound) (n : ℕ) : Type 0 where
  pub a : ℕ
  -- the number that the second of the two bounds is
  pub b : ℕ
  -- the first bound is not missing but the sum a
  pub left : x ≡ Sum a
  -- the second bound is not missing but the sum b
  pub right : y ≡ Sum b
  pub sum : a + b ≡ n

-- where the sum of two bounds is there, both are, and their numbers add to it
pub split : (x y : Bound) (n : ℕ) → add x y ≡ Sum n → Split x y n
split Missing y n e = absurd (no_sum_lem Missing n refl e)
split (Sum a) Missing n e = absurd (no_sum_lem Missing n refl e)
split (Sum a) (Sum b) n e = record { a = a; b = b; left = refl; right = refl; sum = cc }

-- a bound with 0 added is that bound
pub add-zero : (x : Bound) → add x (Sum 0) ≡ x
add-zero Missing = refl
add-zero (Sum a) = ap Sum (omega arith)

-- a number added to the first of two bounds may as well be added to the second
pub add_swap : (m : ℕ) (x y : Bound) → add (add (Sum m) x) y ≡ add x (add (Sum m) y)
add_swap m Missing y = refl
add_swap m (Sum a) Missing = refl
add_swap m (Sum a) (Sum b) = ap Sum (omega arith)

-- ---- the largest

-- where m and each of two bounds never fall, neither do m and the larger of them
larger_mono : (m n : ℕ) (x y x' y' : Bound) → NoMore (add (Sum m) x) (add (Sum n) x') → NoMore (add (Sum m) y) (add (Sum n) y') → NoMore (add (Sum m) (larger x y)) (add (Sum n) (larger x' y'))
larger_mono m n x y Missing y' h g = tt
larger_mono m n x y (Sum c) Missing h g = tt
larger_mono m n Missing y (Sum c) (Sum d) h g = absurd h
larger_mono m n (Sum a) Missing (Sum c) (Sum d) h g = absurd g
larger_mono m n (Sum a) (Sum b) (Sum c) (Sum d) h g = omega arith

-- a number plus the largest over the parts never falls, where the number plus any one part's doesn't
pub largest_mono : {A : Type 0} (f : A → List Bool → Bound) (m n : ℕ) (rest : List A) (p q : List Bool) → m ≤ n → ((a : A) → NoMore (add (Sum m) (f a p)) (add (Sum n) (f a q)))
    → NoMore (add (Sum m) (largest f rest p)) (add (Sum n) (largest f rest q))
largest_mono f m n [] p q l h = omega arith
largest_mono f m n (a ∷ rest) p q l h = larger_mono m n (f a p) (largest f rest p) (f a q) (largest f rest q) (h a) (largest_mono f m n rest p q l h)

-- where each part's f is there, and its g is 0 then, the largest g is 0
pub largest_none : {A : Type 0} (f g : A → List Bool → Bound) (p : List Bool) → ((a : A) (n : ℕ) → f a p ≡ Sum n → g a p ≡ Sum 0)
    → (rest : List A) (n : ℕ) → total f rest p ≡ Sum n → largest g rest p ≡ Sum 0
largest_none f g p h [] n e = refl
largest_none f g p h (a ∷ rest) n e =
    let d = split (f a p) (total f rest p) n e in
    rw (h a d.a d.left, largest_none f g p h rest d.b d.right) (ap Sum (omega arith))

-- and where each part's f is there, and its g too then, the largest g is there
pub largest_there : {A : Type 0} (f g : A → List Bool → Bound) (p : List Bool) → ((a : A) (n : ℕ) → f a p ≡ Sum n → (m : ℕ) × (g a p ≡ Sum m))
    → (rest : List A) (n : ℕ) → total f rest p ≡ Sum n → (m : ℕ) × (largest g rest p ≡ Sum m)
largest_there f g p h [] n e = (0, refl)
largest_there f g p h (a ∷ rest) n e =
    let d = split (f a p) (total f rest p) n e in
    let x = h a d.a d.left in
    let y = largest_there f g p h rest d.b d.right in
    (max x.0 y.0, rw (x.1, y.1))

-- one more, at the end
pub larger_assoc : (x y z : Bound) → larger x (larger y z) ≡ larger (larger x y) z
larger_assoc Missing y z = refl
larger_assoc (Sum a) Missing z = refl
larger_assoc (Sum a) (Sum b) Missing = refl
larger_assoc (Sum a) (Sum b) (Sum c) = ap Sum (omega arith)

-- the larger of two bounds is the same in either order
pub larger_comm : (x y : Bound) → larger x y ≡ larger y x
larger_comm Missing Missing = refl
larger_comm Missing (Sum b) = refl
larger_comm (Sum a) Missing = refl
larger_comm (Sum a) (Sum b) = ap Sum (omega arith)

-- the largest with one part more is the larger of the largest before and that part's
pub largest_snoc : {A : Type 0} (f : A → List Bool → Bound) (rest : List A) (a : A) (p : List Bool) → largest f (rest ++ (a ∷ [])) p ≡ larger (largest f rest p) (f a p)
largest_snoc f [] a p = larger_comm (f a p) (Sum 0)
largest_snoc f (x ∷ rest) a p = ap (larger (f x p)) (largest_snoc f rest a p) ∙ larger_assoc (f x p) (largest f rest p) (f a p)

-- more is no less
pub add_more : (x y : Bound) → NoMore x (add x y)
add_more Missing y = tt
add_more (Sum a) Missing = tt
add_more (Sum a) (Sum b) = omega arith
