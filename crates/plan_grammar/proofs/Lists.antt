-- Laws of tests of lists and of tables, by recursion over the list and by index.
use Prim.Native.Nat.{ℕ, zero, suc, ◌<◌}
use mathlib.Core.Path.{◌≡◌, refl, sym, ap, ◌∙◌}
use mathlib.Core.List.{List, [], ◌∷◌, ◌++◌, map}
use mathlib.Core.Bool.{Bool, true, false, ◌||◌, or_assoc, or-true, or-false, false≢true}
use native.Mathlib.Omega.{arith}
use borrow.Author.Tests.{eqb-true, eqb-false}
use lib.Dec.{eqb}
use lib.ListN.{length, get_or, set, replicate, length-set, length-map, get_or-map}
use lib.Seq.{get_or-set_same, get_or-set_other, ext_get_or}
pub use Rattle.model.proofs.Lists.{table-length, table_at, table_same}
use Rattle.model.specs.Model.{listed}
use Rattle.plan_grammar.specs.Grammar.{any, table}

-- ---- some element passes, or none does

module _ {A : Type 0} (test : A → Bool) where
  -- if what stands at some place passes a test, then something in the list does
  pub any_at : (xs : List A) (d : A) (i : ℕ) → i < length xs → test (get_or xs i d) ≡ true → any test xs ≡ true
  unfolding any
  any_at [] d i h e = absurd (omega arith)
  any_at (x ∷ xs) d zero h e = rw (any, e)
  any_at (x ∷ xs) d (suc i) h e = rw (any, any_at xs d i (omega arith) e) (or-true (test x))

  -- where the first that passes stands
  pub any_index : (xs : List A) (d : A) → any test xs ≡ true → (i : ℕ) × (i < length xs) × (test (get_or xs i d) ≡ true)
  unfolding any
  any_index [] d e = absurd (false≢true e)
  any_index (x ∷ xs) d e = go (test x) refl (any_index xs d)
    where
      go : (b : Bool) → test x ≡ b → (any test xs ≡ true → (i : ℕ) × (i < length xs) × (test (get_or xs i d) ≡ true)) → (i : ℕ) × (i < length (x ∷ xs)) × (test (get_or (x ∷ xs) i d) ≡ true)
      go true f rest = (0, omega arith, f)
      go false f rest = let r = rest (rw (any, f) at e) in (suc r.0, omega (arith, r.1), r.2)

  -- something in two joined lists passes exactly if something in one of them does
  pub any_append : (xs ys : List A) → any test (xs ++ ys) ≡ (any test xs || any test ys)
  unfolding any
  any_append [] ys = refl
  any_append (x ∷ xs) ys = rw (any, any_append xs ys) (sym (or_assoc (test x) (any test xs) (any test ys)))

  -- with one element more, something passes if something before did or it does
  pub any_snoc : (xs : List A) (x : A) → any test (xs ++ x ∷ []) ≡ (any test xs || test x)
  unfolding any
  any_snoc xs x = any_append xs (x ∷ []) ∙ ap (λ (b : Bool). any test xs || b) (or-false (test x))

-- a number is on a list if one of the list is that number
pub listed_any : (ks : List ℕ) (k : ℕ) → listed ks k ≡ any (λ (j : ℕ). eqb j k) ks
unfolding listed any
listed_any [] k = refl
listed_any (j ∷ ks) k = ap (λ (b : Bool). eqb j k || b) (listed_any ks k)

-- ---- tables

module _ {A : Type 0} where
  -- a list of n elements is a table
  pub table_is : (xs : List A) (d : A) (f : ℕ → A) (n : ℕ) → length xs ≡ n → ((i : ℕ) → i < n → get_or xs i d ≡ f i) → xs ≡ table f n
  table_is xs d f n l h =
      ext_get_or d xs (table f n) (l ∙ sym (table-length f n)) (λ i m. let k : i < n = omega arith in h i k ∙ sym (table_at f n i d k))

  -- one entry is stored
  pub table-set : (f g : ℕ → A) (n j : ℕ) (x : A) → j < n → x ≡ g j → ((i : ℕ) → i < n → (i ≡ j → ⊥) → f i ≡ g i) → set (table f n) j x ≡ table g n
  table-set f g n j x h e o = table_is (set (table f n) j x) x g n (length-set (table f n) j x ∙ table-length f n) each
    where
      each : (i : ℕ) → i < n → get_or (set (table f n) j x) i x ≡ g i
      each i l = go (eqb i j) refl
        where
          go : (t : Bool) → eqb i j ≡ t → get_or (set (table f n) j x) i x ≡ g i
          go true q =
              let p = eqb-true i j q in
              ap (λ (k : ℕ). get_or (set (table f n) j x) k x) p ∙ get_or-set_same (table f n) j x x (omega (arith, table-length f n)) ∙ e ∙ ap g (sym p)
          go false q = let p = eqb-false i j q in get_or-set_other (table f n) j i x x p ∙ table_at f n i x l ∙ o i l p

module _ {A B : Type 0} (f : A → B) where
  -- a mapped list is the table of the function's values at its places
  pub map-table : (xs : List A) (d : A) → map f xs ≡ table (λ i. f (get_or xs i d)) (length xs)
  map-table xs d = table_is (map f xs) (f d) (λ i. f (get_or xs i d)) (length xs) (length-map xs f) (λ i h. get_or-map f xs i d)

  -- a mapped list with one entry replaced is the mapped list with that entry's value replaced
  pub map-set : (xs : List A) (i : ℕ) (x : A) → map f (set xs i x) ≡ set (map f xs) i (f x)
  map-set [] i x = refl
  map-set (y ∷ xs) zero x = refl
  map-set (y ∷ xs) (suc i) x = ap (λ (zs : List B). f y ∷ zs) (map-set xs i x)

-- a list mapped to one value is that value repeated as often
pub map_constant : {A B : Type 0} (xs : List A) (b : B) → map (λ (x : A). b) xs ≡ replicate (length xs) b
map_constant [] b = refl
map_constant (x ∷ xs) b = ap (λ (ys : List _). b ∷ ys) (map_constant xs b)
