-- Two loops, one in the other, that write a triangle of places: by one row more.
use Prim.Native.Nat.{ℕ, ◌+◌, ◌≤◌, ◌<◌}
use mathlib.Core.Path.{◌≡◌, sym, subst, ◌∙◌}
use mathlib.Core.List.{List}
use native.Mathlib.Decide.{dec_le}
use native.Mathlib.Omega.{arith}
use borrow.Author.Count.{below_more}
use lib.ListN.{get_or}
use Rattle.base.specs.Filled.{FilledBy}
use Rattle.search_tables.specs.Fill.{Triangle}

module _ {at f : ℕ → ℕ → ℕ} {t : List ℕ} where
  -- row n, which is apart from those before it
  pub triangle_more : {n : ℕ} {u v : List ℕ} (g : ℕ → ℕ) → ((i : ℕ) → i ≤ n → g i ≡ f n i) → ((j i k : ℕ) → i ≤ j → j < n → k ≤ n → at j i ≡ at n k → ⊥) → FilledBy (at n) g (n + 1) u v
      → Triangle at f n t u → Triangle at f (n + 1) t v
  triangle_more {n} {u} {v} g is apart r d =
      record {
        size = r.size ∙ d.size;
        done = λ j i h l.
            below_more (λ (j : ℕ). (i : ℕ) → i ≤ j → get_or v (at j i) 0 ≡ f j i) n
            (λ j l i h. r.rest (at j i) (λ k g e. apart j i k h l (omega arith) e) ∙ d.done j i h l)
            (λ i h. r.done i (omega arith) ∙ is i h) j l i h;
        rest = λ x h. r.rest x (λ k l e. h n k (omega arith) (omega arith) e) ∙ d.rest x (λ j i l g e. h j i l (omega arith) e);
      }

-- where no number that is written is above b, a number that was not stays so
pub triangle_most : {at f : ℕ → ℕ → ℕ} {n : ℕ} {t u : List ℕ} (b : ℕ) → Triangle at f n t u → ((j i : ℕ) → i ≤ j → j < n → f j i ≤ b) → (x : ℕ) → get_or t x 0 ≤ b → get_or u x 0 ≤ b
triangle_most {n = n} {t = t} {u = u} b r m x h = go (dec_le (get_or u x 0) b)
  where
    go : Dec (get_or u x 0 ≤ b) → get_or u x 0 ≤ b
    go (yes l) = l
    go (no l) = let same = r.rest x (λ j i a c e. l (subst (λ (y : ℕ). get_or u y 0 ≤ b) (sym e) (omega (arith, r.done j i a c, m j i a c)))) in omega (arith, same, h)
