-- Sums at sets: `sum_at` as a sum over the places, and split by another set; and selections of sets. By recursion over the lists.
use mathlib.Core.Path.{◌≡◌, refl, sym, ap, ◌∙◌}
use mathlib.Core.Bool.{Bool, true, false, cond, false≢true}
use mathlib.Core.List.{List, [], ◌∷◌}
use Prim.Native.Nat.{ℕ, zero, suc, ◌+◌}
use native.Mathlib.Omega.{arith}
use lib.ListN.{length, get_or, drop}
use Rattle.model.specs.Model.{select, sum_at, sum}
use Rattle.base.proofs.Bools.{after_one}
use Rattle.model.proofs.Offers.{sum_false, sum_true}
use Rattle.model.proofs.Sums.{sum_same, sum_shift}

-- the first number, where it is chosen, and the others
pub sum_first : (ns : List ℕ) (c : Bool) (cs : List Bool) → sum_at ns (c ∷ cs) ≡ cond c (get_or ns 0 0) 0 + sum_at (drop 1 ns) cs
sum_first ns false cs = omega (arith, sum_false ns cs)
sum_first ns true cs = sum_true ns cs

-- numbers at a set
pub sum_at_lem : (ns : List ℕ) (cs : List Bool) (n : ℕ) → length cs ≡ n → sum_at ns cs ≡ sum 0 n (λ k. cond (get_or cs k false) (get_or ns k 0) 0)
unfolding sum sum_at
sum_at_lem ns [] zero h = refl
sum_at_lem ns [] (suc n) h = absurd (omega arith)
sum_at_lem ns (c ∷ cs) zero h = absurd (omega arith)
sum_at_lem ns (c ∷ cs) (suc n) h =
    sum_first ns c cs ∙ ap (λ (x : ℕ). cond c (get_or ns 0 0) 0 + x)
    (sum_at_lem (drop 1 ns) cs n (omega arith)
    ∙ sum_same n 0 (λ k. cond (get_or cs k false) (get_or (drop 1 ns) k 0) 0) (λ k. cond (get_or cs k false) (get_or ns (suc k) 0) 0) (λ k _ _. ap (λ (x : ℕ). cond (get_or cs k false) x 0) (after_one ns k 0))
    ∙ sym (sum_shift n 0 (λ k. cond (get_or (c ∷ cs) k false) (get_or ns k 0) 0)))

-- a sum at a set without any member is 0
pub sum_empty : (ns : List ℕ) (cs : List Bool) → ((k : ℕ) → get_or cs k false ≡ true → ⊥) → sum_at ns cs ≡ 0
unfolding sum_at
sum_empty ns [] h = refl
sum_empty [] (c ∷ cs) h = refl
sum_empty (n ∷ ns) (false ∷ cs) h = sum_empty ns cs (λ k. h (suc k))
sum_empty (n ∷ ns) (true ∷ cs) h = absurd (h 0 refl)

-- ---- a set split by another

-- those that are not in the other
abbrev pub outside : List Bool → List Bool → List Bool
outside [] ms = []
outside (o ∷ os) [] = o ∷ os
outside (o ∷ os) (true ∷ ms) = false ∷ outside os ms
outside (o ∷ os) (false ∷ ms) = o ∷ outside os ms

-- a sum at a set is the sum inside another set plus that outside of it
pub sum_split : (ns : List ℕ) (os ms : List Bool) → length os ≡ length ns → length ms ≡ length ns → sum_at ns os ≡ sum_at (select ns ms) (select os ms) + sum_at ns (outside os ms)
unfolding sum_at select
sum_split [] [] ms h g = omega arith
sum_split [] (o ∷ os) ms h g = absurd (omega arith)
sum_split (n ∷ ns) [] ms h g = absurd (omega arith)
sum_split (n ∷ ns) (o ∷ os) [] h g = absurd (omega arith)
sum_split (n ∷ ns) (false ∷ os) (true ∷ ms) h g = sum_split ns os ms (omega arith) (omega arith)
sum_split (n ∷ ns) (true ∷ os) (true ∷ ms) h g = omega (arith, sum_split ns os ms (omega arith) (omega arith))
sum_split (n ∷ ns) (false ∷ os) (false ∷ ms) h g = sum_split ns os ms (omega arith) (omega arith)
sum_split (n ∷ ns) (true ∷ os) (false ∷ ms) h g = omega (arith, sum_split ns os ms (omega arith) (omega arith))

-- a set without the members of another is over as many places as before
pub outside-length : (os ms : List Bool) → length (outside os ms) ≡ length os
outside-length [] ms = refl
outside-length (o ∷ os) [] = refl
outside-length (o ∷ os) (true ∷ ms) = ap suc (outside-length os ms)
outside-length (o ∷ os) (false ∷ ms) = ap suc (outside-length os ms)

-- a place is in the set without the other's if it is in it and not in the other
pub outside_at : (os ms : List Bool) (j : ℕ) → get_or (outside os ms) j false ≡ cond (get_or ms j false) false (get_or os j false)
outside_at [] ms j = none (get_or ms j false)
  where
    none : (b : Bool) → false ≡ cond b false false
    none true = refl
    none false = refl
outside_at (o ∷ os) [] j = refl
outside_at (o ∷ os) (true ∷ ms) zero = refl
outside_at (o ∷ os) (true ∷ ms) (suc j) = outside_at os ms j
outside_at (o ∷ os) (false ∷ ms) zero = refl
outside_at (o ∷ os) (false ∷ ms) (suc j) = outside_at os ms j

-- ---- a selection

-- selections from equally long lists at one set are equally long
pub select-length : {A B : Type 0} (xs : List A) (ys : List B) (ms : List Bool) → length xs ≡ length ys → length (select xs ms) ≡ length (select ys ms)
unfolding select
select-length [] [] ms h = refl
select-length [] (y ∷ ys) ms h = absurd (omega arith)
select-length (x ∷ xs) [] ms h = absurd (omega arith)
select-length (x ∷ xs) (y ∷ ys) [] h = refl
select-length (x ∷ xs) (y ∷ ys) (false ∷ ms) h = select-length xs ys ms (omega arith)
select-length (x ∷ xs) (y ∷ ys) (true ∷ ms) h = ap suc (select-length xs ys ms (omega arith))

-- a selection of an empty set
pub select_none : (xs ms : List Bool) → ((j : ℕ) → get_or xs j false ≡ true → ⊥) → (i : ℕ) → get_or (select xs ms) i false ≡ true → ⊥
unfolding select
select_none [] ms f i e = f i e
select_none (x ∷ xs) [] f i e = false≢true e
select_none (x ∷ xs) (false ∷ ms) f i e = select_none xs ms (λ j. f (suc j)) i e
select_none (x ∷ xs) (true ∷ ms) f zero e = f 0 e
select_none (x ∷ xs) (true ∷ ms) f (suc i) e = select_none xs ms (λ j. f (suc j)) i e

-- one set in another, over the same selection
pub select_in : (xs ys ms : List Bool) → length xs ≡ length ys → ((j : ℕ) → get_or xs j false ≡ true → get_or ys j false ≡ true) → (i : ℕ) → get_or (select xs ms) i false ≡ true → get_or (select ys ms) i false ≡ true
unfolding select
select_in [] [] ms h f i e = e
select_in [] (y ∷ ys) ms h f i e = absurd (omega arith)
select_in (x ∷ xs) [] ms h f i e = absurd (omega arith)
select_in (x ∷ xs) (y ∷ ys) [] h f i e = e
select_in (x ∷ xs) (y ∷ ys) (false ∷ ms) h f i e = select_in xs ys ms (omega arith) (λ j. f (suc j)) i e
select_in (x ∷ xs) (y ∷ ys) (true ∷ ms) h f zero e = f 0 e
select_in (x ∷ xs) (y ∷ ys) (true ∷ ms) h f (suc i) e = select_in xs ys ms (omega arith) (λ j. f (suc j)) i e

-- the place that an entry of a selection has in the list
pub select_place : (ms : List Bool) (i : ℕ) → (j : ℕ) × ((xs : List Bool) → length xs ≡ length ms → get_or (select xs ms) i false ≡ get_or xs j false)
unfolding select
select_place [] i = (0, λ xs h. none xs h)
  where
    none : (xs : List Bool) → length xs ≡ 0 → get_or (select xs []) i false ≡ get_or xs 0 false
    none [] h = refl
    none (x ∷ xs) h = absurd (omega arith)
select_place (false ∷ ms) i = let r = select_place ms i in (suc r.0, λ xs h. go r.0 r.1 xs h)
  where
    go : (j : ℕ) → ((xs : List Bool) → length xs ≡ length ms → get_or (select xs ms) i false ≡ get_or xs j false)
        → (xs : List Bool) → length xs ≡ suc (length ms) → get_or (select xs (false ∷ ms)) i false ≡ get_or xs (suc j) false
    go j f [] h = absurd (omega arith)
    go j f (x ∷ xs) h = f xs (omega arith)
select_place (true ∷ ms) zero = (0, λ xs h. go xs h)
  where
    go : (xs : List Bool) → length xs ≡ suc (length ms) → get_or (select xs (true ∷ ms)) 0 false ≡ get_or xs 0 false
    go [] h = absurd (omega arith)
    go (x ∷ xs) h = refl
select_place (true ∷ ms) (suc i) = let r = select_place ms i in (suc r.0, λ xs h. go r.0 r.1 xs h)
  where
    go : (j : ℕ) → ((xs : List Bool) → length xs ≡ length ms → get_or (select xs ms) i false ≡ get_or xs j false)
        → (xs : List Bool) → length xs ≡ suc (length ms) → get_or (select xs (true ∷ ms)) (suc i) false ≡ get_or xs (suc j) false
    go j f [] h = absurd (omega arith)
    go j f (x ∷ xs) h = f xs (omega arith)
