-- Numbers that stand so far apart: each stands before the next, and no two at one place. And rows and triangles of them.
use Prim.Native.Nat.{ℕ, ◌+◌, ◌*◌, ◌<◌, ◌≤◌}
use mathlib.Core.Path.{◌≡◌, subst}
use mathlib.Core.List.{List}
use native.Mathlib.Nat.{mul-le-mul_right}
use native.Mathlib.Omega.{arith}
use Rattle.base.specs.Filled.{FilledBy}
use Rattle.search_tables.specs.Fill.{Triangle, step_place}

-- one of fewer stands a step before
pub step_before : (at s i n : ℕ) → i < n → step_place at s i + s ≤ step_place at s n
step_before at s i n l = let z : (i + 1) * s ≤ n * s = mul-le-mul_right s (omega arith) in omega (arith, z)

-- two of different numbers stand apart
pub step_apart : (at s i n : ℕ) → 0 < s → i < n → step_place at s i ≡ step_place at s n → ⊥
step_apart at s i n some l e = omega (arith, step_before at s i n l, e)

-- a row that begins behind r numbers has the numbers from r on
pub step_row : {g : ℕ → ℕ} {n : ℕ} {t u : List ℕ} (base s r : ℕ) → FilledBy (step_place (base + r * s) s) g n t u → FilledBy (λ (i : ℕ). step_place base s (r + i)) g n t u
step_row {g} {n} {t} {u} base s r = subst (λ (p : ℕ → ℕ). FilledBy p g n t u) (λ k i. same i k)
  where
    same : (i : ℕ) → base + r * s + i * s ≡ base + (r + i) * s
    same i = omega arith

-- a triangle by other words for its places
pub triangle_as : {at to f : ℕ → ℕ → ℕ} {n : ℕ} {t u : List ℕ} → ((j i : ℕ) → at j i ≡ to j i) → Triangle at f n t u → Triangle to f n t u
triangle_as {at} {to} {f} {n} {t} {u} e = subst (λ (p : ℕ → ℕ → ℕ). Triangle p f n t u) (λ k j i. e j i k)

-- a row by other words for its places
pub row_as : {at to g : ℕ → ℕ} {n : ℕ} {t u : List ℕ} → ((i : ℕ) → at i ≡ to i) → FilledBy at g n t u → FilledBy to g n t u
row_as {at} {to} {g} {n} {t} {u} e = subst (λ (p : ℕ → ℕ). FilledBy p g n t u) (λ k i. e i k)
