-- Laws of lists that are joined: one piece more, and how long the whole is. By recursion over the pieces.
use Prim.Native.Nat.{ℕ, zero, suc, ◌+◌, ◌*◌, ◌≤◌, ◌<◌, zero-le}
use mathlib.Core.Path.{◌≡◌}
use mathlib.Core.List.{List, ◌++◌}
use mathlib.Core.Logic.{⊎_elim}
use native.Mathlib.Nat.{suc-mul, eq-or-lt_of_le, le_of_suc-le-suc, not-suc-le-zero}
use native.Mathlib.Numerals.{add-one}
use native.Mathlib.Omega.{arith}
use lib.ListN.{length, length-append}
use Rattle.base.specs.Joined.{joined}

-- one piece more, joined, stands behind the pieces before it
pub joined_more : {A : Type 0} (f : ℕ → List A) (n : ℕ) → joined f (n + 1) ≡ joined f n ++ f n
unfolding joined
joined_more f n = rw add-one

-- what is written by turn i and what turn i writes is within the whole
pub joined_room : (f : ℕ → List ℕ) (i n : ℕ) → i < n → length (joined f i) + length (f i) ≤ length (joined f n)
unfolding joined
joined_room f i zero h = absurd (not-suc-le-zero h)
joined_room f i (suc n) h =
    ⊎_elim
    (λ (e : i ≡ n). rw (length-append, e) (omega arith))
    (λ (l : i < n). rw length-append (omega (arith, joined_room f i n l)))
    (eq-or-lt_of_le (le_of_suc-le-suc h))

-- joining more pieces never makes the whole shorter
pub joined_grows : (f : ℕ → List ℕ) (n m : ℕ) → n ≤ m → length (joined f n) ≤ length (joined f m)
joined_grows f n m h = ⊎_elim (λ (e : n ≡ m). rw e (omega arith)) (λ (l : n < m). omega (arith, joined_room f n m l)) (eq-or-lt_of_le h)

-- n pieces of at most m bytes each
pub joined_short : (f : ℕ → List ℕ) (m n : ℕ) → ((i : ℕ) → i < n → length (f i) ≤ m) → length (joined f n) ≤ n * m
unfolding joined
joined_short f m zero h = zero-le
joined_short f m (suc n) h = rw (length-append, suc-mul) (omega (arith, joined_short f m n (λ i l. h i (omega arith)), h n (omega arith)))
