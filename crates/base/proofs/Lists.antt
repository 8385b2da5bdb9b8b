-- Laws of lists, place by place: what holds of each, the first n seen through a function, equal values. By recursion over the list.
use Prim.Native.Nat.{ℕ, zero, suc, ◌≤◌, ◌<◌}
use mathlib.Core.Path.{◌≡◌, refl, ap, ◌∙◌}
use mathlib.Core.List.{List, [], ◌∷◌, map}
use native.Mathlib.Omega.{arith}
use lib.ListN.{length, get_or, take, replicate, length-map, get_or-map}
use lib.Seq.{get_or-take, length-take-le}
use Rattle.base.proofs.Bools.{there}
use Rattle.base.specs.Each.{All, Chained}

-- what holds of each holds at each place
pub all_at : {A : Type 0} (P : A → Type 0) (l : List A) (d : A) (i : ℕ) → All P l → i < length l → P (get_or l i d)
all_at P [] d i h l = absurd (omega arith)
all_at P (x ∷ xs) d zero h l = h.0
all_at P (x ∷ xs) d (suc i) h l = all_at P xs d i h.1 (omega arith)

-- an entry of a mapped list, inside it, is the function's value at the list's entry
pub map_at : {A B : Type 0} (f : A → B) (l : List A) (i : ℕ) (d : A) (e : B) → i < length l → get_or (map f l) i e ≡ f (get_or l i d)
map_at f l i d e h = there (map f l) i e (f d) (rw length-map h) ∙ get_or-map f l i d

module _ {A B : Type 0} (f : A → B) (l : List A) (n : ℕ) (h : n ≤ length l) where
  -- the first n, seen through f
  pub firsts_size : length (map f (take n l)) ≡ n
  firsts_size = length-map (take n l) f ∙ length-take-le n l h

  -- an entry of the first n, seen through f, is f of the list's entry there
  pub firsts_at : (i : ℕ) (d : A) (e : B) → i < n → get_or (map f (take n l)) i e ≡ f (get_or l i d)
  firsts_at i d e g = map_at f (take n l) i d e (rw (length-take-le n l h) g) ∙ ap f (get_or-take n l i d g)

-- a repeated value, mapped, is the mapped value repeated as often
pub map-replicate : {A B : Type 0} (f : A → B) (n : ℕ) (a : A) → map f (replicate n a) ≡ replicate n (f a)
map-replicate f zero a = refl
map-replicate f (suc n) a = ap (λ (xs : List _). f a ∷ xs) (map-replicate f n a)

-- the first n of a value that is repeated more often are the value n times
pub take-replicate : {A : Type 0} (n k : ℕ) (a : A) → n ≤ k → take n (replicate k a) ≡ replicate n a
take-replicate zero k a h = refl
take-replicate (suc n) zero a h = absurd (omega arith)
take-replicate (suc n) (suc k) a h = ap (λ (xs : List _). a ∷ xs) (take-replicate n k a (omega arith))

-- a chain that hands nothing on says the same of each
module _ {A : Type 0} (P : A → Type 0) where
  -- what a chain that hands nothing on says of its members holds of each
  pub chained_each : (before : ℕ) (xs : List A) → Chained (λ (k : ℕ). P) (λ (k : ℕ) (x : A). 0) before xs → All P xs
  chained_each before [] c = tt
  chained_each before (x ∷ xs) c = (c.0, chained_each 0 xs c.1)

  -- what holds of each member holds along a chain that hands nothing on
  pub each_chained : (before : ℕ) (xs : List A) → All P xs → Chained (λ (k : ℕ). P) (λ (k : ℕ) (x : A). 0) before xs
  each_chained before [] v = tt
  each_chained before (x ∷ xs) v = (v.0, each_chained 0 xs v.1)
