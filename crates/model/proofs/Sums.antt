-- The laws of `sum`: when it is at least 1, two sums as one, in the other order, and of a single term. By recursion over the count.
use mathlib.Core.Path.{◌≡◌, refl, ap, ap₂, subst, ◌∙◌}
use mathlib.Core.Bool.{cond}
use Prim.Native.Nat.{ℕ, zero, suc, ◌+◌, ◌≤◌, ◌<◌}
use native.Mathlib.Omega.{arith}
use native.Mathlib.Decide.{dec_le}
use lib.Dec.{eqb}
use borrow.Author.Tests.{eq-eqb, ne_eqb}
use Rattle.model.specs.Model.{sum}

-- a sum of at least 1 has a term of at least 1, and the converse
pub sum_term : (n from : ℕ) (f : ℕ → ℕ) → 1 ≤ sum from n f → (t : ℕ) × (from ≤ t) × (t < from + n) × (1 ≤ f t)
unfolding sum
sum_term zero from f h = absurd (omega arith)
sum_term (suc n) from f h = go (dec_le 1 (f from)) (sum_term n (suc from) f)
  where
    go : Dec (1 ≤ f from) → (1 ≤ sum (suc from) n f → (t : ℕ) × (suc from ≤ t) × (t < suc from + n) × (1 ≤ f t)) → (t : ℕ) × (from ≤ t) × (t < from + suc n) × (1 ≤ f t)
    go (yes p) r = (from, omega arith, omega arith, p)
    go (no p) r = let q = r (omega (arith, p)) in (q.0, omega (arith, q.1), omega (arith, q.2), q.3)

-- a sum with a term of 1 or more in its range is at least 1
pub term_sum : (n from : ℕ) (f : ℕ → ℕ) (t : ℕ) → from ≤ t → t < from + n → 1 ≤ f t → 1 ≤ sum from n f
unfolding sum
term_sum zero from f t a b h = absurd (omega arith)
term_sum (suc n) from f t a b h = go (dec_le (suc from) t) (λ p. term_sum n (suc from) f t p (omega arith) h)
  where
    go : Dec (suc from ≤ t) → (suc from ≤ t → 1 ≤ sum (suc from) n f) → 1 ≤ f from + sum (suc from) n f
    go (yes p) r = omega (arith, r p)
    go (no p) r = let e : t ≡ from = omega (arith, p) in omega (arith, subst (λ (k : ℕ). 1 ≤ f k) e h)

-- a sum of nothing but zeros is 0, over any range
pub sum_none : (n from : ℕ) → sum from n (λ _. 0) ≡ 0
unfolding sum
sum_none zero from = refl
sum_none (suc n) from = omega (arith, sum_none n (suc from))

-- of terms that are equal
pub sum_same : (n from : ℕ) (f g : ℕ → ℕ) → ((t : ℕ) → from ≤ t → t < from + n → f t ≡ g t) → sum from n f ≡ sum from n g
unfolding sum
sum_same zero from f g h = refl
sum_same (suc n) from f g h = ap₂ (λ (a b : ℕ). a + b) (h from (omega arith) (omega arith)) (sum_same n (suc from) f g (λ t a b. h t (omega arith) (omega arith)))

-- of terms that are no larger
pub sum_mono : (n from : ℕ) (f g : ℕ → ℕ) → ((t : ℕ) → from ≤ t → t < from + n → f t ≤ g t) → sum from n f ≤ sum from n g
unfolding sum
sum_mono zero from f g h = omega arith
sum_mono (suc n) from f g h = omega (arith, h from (omega arith) (omega arith), sum_mono n (suc from) f g (λ t a b. h t (omega arith) (omega arith)))

-- the sum of two functions added term by term is the sum of their two sums
pub sum_both : (n from : ℕ) (f g : ℕ → ℕ) → sum from n (λ t. f t + g t) ≡ sum from n f + sum from n g
unfolding sum
sum_both zero from f g = refl
sum_both (suc n) from f g = omega (arith, sum_both n (suc from) f g)

-- from another first number
pub sum_shift : (n from : ℕ) (f : ℕ → ℕ) → sum (suc from) n f ≡ sum from n (λ t. f (suc t))
unfolding sum
sum_shift zero from f = refl
sum_shift (suc n) from f = ap (λ (k : ℕ). f (suc from) + k) (sum_shift n (suc from) f)

-- in the other order
pub sum_swap : (m b n a : ℕ) (f : ℕ → ℕ → ℕ) → sum a n (λ t. sum b m (λ i. f i t)) ≡ sum b m (λ i. sum a n (f i))
unfolding sum
sum_swap zero b n a f = sum_none n a
sum_swap (suc m) b n a f = sum_both n a (f b) (λ t. sum (suc b) m (λ i. f i t)) ∙ ap (λ (k : ℕ). sum a n (f b) + k) (sum_swap m (suc b) n a f)

-- one term alone, at s
sum_past : (s v n from : ℕ) → s < from → sum from n (λ t. cond (eqb s t) v 0) ≡ 0
unfolding sum
sum_past s v zero from h = refl
sum_past s v (suc n) from h = rw (ne_eqb s from (λ e. omega (arith, e))) (omega (arith, sum_past s v n (suc from) (omega arith)))

-- a sum whose only term stands at s, inside the range, is that term
pub sum_one : (s v n from : ℕ) → from ≤ s → s < from + n → sum from n (λ t. cond (eqb s t) v 0) ≡ v
unfolding sum
sum_one s v zero from a b = absurd (omega arith)
sum_one s v (suc n) from a b = go (dec_le (suc from) s) (λ p. sum_one s v n (suc from) p (omega arith))
  where
    rest : ℕ
    rest = sum (suc from) n (λ t. cond (eqb s t) v 0)

    go : Dec (suc from ≤ s) → (suc from ≤ s → rest ≡ v) → cond (eqb s from) v 0 + rest ≡ v
    go (yes p) r = rw (ne_eqb s from (λ e. omega (arith, e))) (omega (arith, r p))
    go (no p) r = rw (eq-eqb s from (omega (arith, p))) (omega (arith, sum_past s v n (suc from) (omega (arith, p))))
