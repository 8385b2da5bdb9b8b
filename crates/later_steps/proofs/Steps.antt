-- Steps one after the other: each of those after a step is (`after_at`), and one more is seen (`seen_more`).
use Prim.Native.Nat.{ℕ, zero, suc, ◌+◌, ◌<◌}
use mathlib.Core.Path.{◌≡◌, refl, ap}
use mathlib.Core.List.{List, [], ◌∷◌, ◌++◌, map}
use native.Mathlib.Omega.{arith}
use native.Mathlib.Numerals.{add-one}
use lib.ListN.{length, get_or, take}
use Rattle.carry.proofs.Later.{After}

next : (f : ℕ → ℕ) (xs : List ℕ) (i : ℕ) → i < length xs → map f (take (suc i) xs) ≡ map f (take i xs) ++ f (get_or xs i 0) ∷ []
next f [] i h = absurd (omega arith)
next f (x ∷ xs) zero h = refl
next f (x ∷ xs) (suc i) h = ap (λ (l : List ℕ). f x ∷ l) (next f xs i (omega arith))

-- one more of the steps, seen through f
pub seen_more : (f : ℕ → ℕ) (xs : List ℕ) (i : ℕ) → i < length xs → map f (take (i + 1) xs) ≡ map f (take i xs) ++ f (get_or xs i 0) ∷ []
seen_more f xs i h = rw add-one (next f xs i h)

-- each of the steps after the step is
pub after_at : (step : ℕ) (ss : List ℕ) → After step ss → (i : ℕ) → i < length ss → step < get_or ss i 0
after_at step [] a i h = absurd (omega arith)
after_at step (s ∷ ss) a zero h = a.0
after_at step (s ∷ ss) a (suc i) h = after_at step ss a.1 i (omega arith)
