-- Laws of `table`: the values of a function at the places from 0 on, by recursion over their number; and of `listed`.
use mathlib.Core.Path.{◌≡◌, refl, sym, ap, ◌∙◌}
use mathlib.Core.Bool.{Bool, true, false, ◌||◌, or-false}
use mathlib.Core.List.{List, [], ◌∷◌, ◌++◌, map}
use Prim.Native.Nat.{ℕ, zero, suc, ◌+◌, ◌<◌}
use native.Mathlib.Numerals.{add-one}
use native.Mathlib.Omega.{arith}
use lib.Dec.{eqb}
use lib.ListN.{length, get_or}
use Rattle.model.specs.Model.{listed, table}
use Rattle.base.proofs.Bools.{inside}

module _ {A : Type 0} where
  -- the table of a function's first n values has n entries
  pub table-length : (f : ℕ → A) (n : ℕ) → length (table f n) ≡ n
  unfolding table
  table-length f zero = refl
  table-length f (suc n) = ap suc (table-length (λ i. f (suc i)) n)

  -- the entry of a table at a place inside it is the function's value there
  pub table_at : (f : ℕ → A) (n k : ℕ) (d : A) → k < n → get_or (table f n) k d ≡ f k
  unfolding table
  table_at f zero k d h = absurd (omega arith)
  table_at f (suc n) zero d h = refl
  table_at f (suc n) (suc k) d h = table_at (λ i. f (suc i)) n k d (omega arith)

  -- functions that agree at the first n places have the same table of n entries
  pub table_same : (f g : ℕ → A) (n : ℕ) → ((k : ℕ) → k < n → f k ≡ g k) → table f n ≡ table g n
  unfolding table
  table_same f g zero h = refl
  table_same f g (suc n) h =
      let x = h 0 (omega arith) in
      let y = table_same (λ i. f (suc i)) (λ i. g (suc i)) n (λ k l. h (suc k) (omega arith)) in
      λ i. x i ∷ y i

  -- one value more, at the end
  more : (f : ℕ → A) (n : ℕ) → table f (suc n) ≡ table f n ++ f n ∷ []
  unfolding table
  more f zero = refl
  more f (suc n) = ap (λ (l : List A). f 0 ∷ l) (more (λ i. f (suc i)) n)

  -- a table with one entry more is the table before it with the next value at its end
  pub table_more : (f : ℕ → A) (n : ℕ) → table f (n + 1) ≡ table f n ++ f n ∷ []
  table_more f n = rw add-one (more f n)

  -- a function applied to every entry of a table is the table of the composed function
  pub table-map : {B : Type 0} (g : A → B) (f : ℕ → A) (n : ℕ) → map g (table f n) ≡ table (λ k. g (f k)) n
  unfolding table
  table-map g f zero = refl
  table-map {B = B} g f (suc n) = ap (λ (l : List B). g (f 0) ∷ l) (table-map g (λ i. f (suc i)) n)

-- a list is the table of its values
pub table_list : {A : Type 0} (d : A) (l : List A) (n : ℕ) → length l ≡ n → table (λ k. get_or l k d) n ≡ l
unfolding table
table_list d [] zero h = refl
table_list d [] (suc n) h = absurd (omega arith)
table_list d (x ∷ l) zero h = absurd (omega arith)
table_list {A} d (x ∷ l) (suc n) h = ap (λ (m : List A). x ∷ m) (table_list d l n (omega arith))

-- one number more is on the list, at the end
pub listed_snoc : (ns : List ℕ) (m n : ℕ) → listed (ns ++ m ∷ []) n ≡ (listed ns n || eqb m n)
unfolding listed
listed_snoc [] m n = or-false (eqb m n)
listed_snoc (k ∷ ns) m n = go (eqb k n) (listed_snoc ns m n)
  where
    go : (b : Bool) → listed (ns ++ m ∷ []) n ≡ (listed ns n || eqb m n) → (b || listed (ns ++ m ∷ []) n) ≡ ((b || listed ns n) || eqb m n)
    go true e = refl
    go false e = e

-- a place of a table that says yes
pub table_yes : (f : ℕ → Bool) (n k : ℕ) → get_or (table f n) k false ≡ true → (k < n) × (f k ≡ true)
table_yes f n k e =
    let l : k < n = omega (arith, inside (table f n) k e, table-length f n) in
    (l, sym (table_at f n k false l) ∙ e)
