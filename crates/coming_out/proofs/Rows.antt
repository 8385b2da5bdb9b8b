-- Rows and matrices: a row is filled place by place, a matrix row by row. By one place, and one row, more.
use mathlib.Core.Path.{◌≡◌, sym, ap, ◌∙◌}
use mathlib.Core.Bool.{Bool, false}
use mathlib.Core.List.{List, ◌++◌}
use Prim.Native.Nat.{ℕ, ◌+◌, ◌-◌, ◌*◌, ◌≤◌, ◌<◌}
use native.Mathlib.Omega.{arith}
use native.Mathlib.Decide.{dec_lt}
use borrow.Author.Count.{below_more}
use lib.ListN.{length, get_or, take, drop, set, replicate, length-replicate, length-append, length-drop, get_or-append, get_or-eq_default}
use lib.Seq.{get_or-set_same, get_or-set_other, get_or-take, get_or-drop, get_or-append-add, paste, take-paste, length-paste, length-take-le, ext_get_or}
use Rattle.model.specs.Limits.{most_parts}
use Rattle.model.specs.Model.{table}
use Rattle.model.proofs.Lists.{table-length, table_at}
use Rattle.coming_out.specs.Rows.{place, Row, Rows}
use Rattle.base.proofs.Bools.{blank}

module _ {A : Type 0} (d : A) where
  -- behind the end of a table
  pub past : (f : ℕ → A) (n j : ℕ) → n ≤ j → get_or (table f n) j d ≡ d
  past f n j h = get_or-eq_default (table f n) d {n = j} (omega (arith, h, table-length f n))

  -- with one place more written, one more of the first is what it should be
  pub front_more : (f : ℕ → A) (i : ℕ) (items : List A) (v : A) → i < length items → v ≡ f i → ((k : ℕ) → k < i → get_or items k d ≡ f k) → (k : ℕ) → k < i + 1 → get_or (set items i v) k d ≡ f k
  front_more f i items v h e all =
      below_more (λ k. get_or (set items i v) k d ≡ f k) i (λ k l. get_or-set_other items i k v d (λ z. omega (arith, z, l)) ∙ all k l) (get_or-set_same items i v d h ∙ e)

  -- a row whose first m places are written holds m entries
  pub row_front : (f : ℕ → A) (m : ℕ) (items : List A) → m ≤ most_parts → length items ≡ m → ((k : ℕ) → k < m → get_or items k d ≡ f k) → Row d (table f m) (items ++ drop m (replicate most_parts d))
  row_front f m items h e all = record {
    size = length-append items (drop m (replicate most_parts d)) ∙ omega (arith, e, h, length-drop m (replicate most_parts d), length-replicate most_parts d);
    at = λ j. go j (dec_lt j m);
  }
    where
      go : (j : ℕ) → Dec (j < m) → get_or (items ++ drop m (replicate most_parts d)) j d ≡ get_or (table f m) j d
      go j (yes l) = get_or-append items (drop m (replicate most_parts d)) d j (omega (arith, l, e)) ∙ all j l ∙ sym (table_at f m j d l)
      go j (no l) =
          let z : j ≡ length items + (j - m) = omega (arith, l, e) in
          ap (λ (i : ℕ). get_or (items ++ drop m (replicate most_parts d)) i d) z
          ∙ get_or-append-add items (drop m (replicate most_parts d)) (j - m) d
          ∙ get_or-drop m (replicate most_parts d) (j - m) d
          ∙ blank d most_parts (m + (j - m))
          ∙ sym (past f m j (omega (arith, l)))

-- the list itself
pub row-take : {A : Type 0} (d : A) (xs row : List A) (m : ℕ) → length xs ≡ m → m ≤ most_parts → Row d xs row → take m row ≡ xs
row-take d xs row m e h r =
    let l : length (take m row) ≡ m = length-take-le m row (omega (arith, h, r.size)) in
    ext_get_or d (take m row) xs (l ∙ sym e) (λ i g. get_or-take m row i d (omega (arith, g, l)) ∙ r.at i)

-- a row pasted behind the first q makes a matrix that holds one list more
pub rows_more : (f : ℕ → List Bool) (q : ℕ) (matrix row : List Bool) → q < most_parts → Row false (f q) row → Rows q f matrix → Rows (q + 1) f (paste matrix (q * most_parts) row most_parts)
rows_more f q matrix row h r s = record {
  size = length-paste matrix (q * most_parts) row most_parts (omega (arith, h, s.size)) (omega (arith, r.size)) ∙ s.size;
  at = λ p j l g. sym (get_or-take (q * most_parts + most_parts) (paste matrix (q * most_parts) row most_parts) (place p j) false (omega (arith, l, g)))
      ∙ ap (λ (t : List Bool). get_or t (place p j) false) (take-paste matrix (q * most_parts) row most_parts (omega (arith, h, s.size)) (omega (arith, r.size)))
      ∙ go p j g (dec_lt p q) l;
}
  where
    front : length (take (q * most_parts) matrix) ≡ q * most_parts
    front = length-take-le (q * most_parts) matrix (omega (arith, h, s.size))

    go : (p j : ℕ) → j < most_parts → Dec (p < q) → p < q + 1 → get_or (take (q * most_parts) matrix ++ take most_parts row) (place p j) false ≡ get_or (f p) j false
    go p j g (yes l) k = get_or-append (take (q * most_parts) matrix) (take most_parts row) false (place p j) (omega (arith, l, g, front)) ∙ get_or-take (q * most_parts) matrix (place p j) false (omega (arith, l, g)) ∙ s.at p j l g
    go p j g (no l) k =
        let z : p ≡ q = omega (arith, l, k) in
        let e : place p j ≡ length (take (q * most_parts) matrix) + j = omega (arith, z, front) in
        ap (λ (i : ℕ). get_or (take (q * most_parts) matrix ++ take most_parts row) i false) e
        ∙ get_or-append-add (take (q * most_parts) matrix) (take most_parts row) j false
        ∙ get_or-take most_parts row j false g
        ∙ r.at j
        ∙ ap (λ (i : ℕ). get_or (f i) j false) (sym z)
