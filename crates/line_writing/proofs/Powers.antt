-- Laws of digits by powers of ten: a list's powers, the first digit and the rest, and where a number's digits have no zero in front.
use Prim.Native.Nat.{ℕ, zero, suc, ◌+◌, ◌*◌, ◌/◌, ◌%◌, ◌^◌, ◌≤◌, ◌<◌}
use mathlib.Core.Path.{◌≡◌, refl, sym, ap, ◌∙◌, subst}
use mathlib.Core.List.{List, [], ◌∷◌, ◌++◌}
use native.Mathlib.Nat.{add-zero, add-suc, suc-add, pow-suc, mul_assoc, not-suc-le-zero, le_of_suc-le-suc}
use native.Mathlib.Omega.{arith}
use lib.ListN.{length, length-append, get_or}
use Rattle.lines.specs.Text.{decimal_in}
use Rattle.line_writing.specs.Padded.{padded}
use Rattle.lines.proofs.Written.{decimal_one, decimal_two}
use Rattle.lines.proofs.Writing.{tenth}

-- n powers of ten, from 10 ^ i up
abbrev pub powers : ℕ → ℕ → List ℕ
powers i zero = []
powers i (suc n) = 10 ^ i ∷ powers (suc i) n

-- entry k of the powers from 10 ^ i up is 10 to the power i + k
pub powers_at : (i n k : ℕ) → k < n → get_or (powers i n) k 0 ≡ 10 ^ (i + k)
powers_at i zero k h = absurd (not-suc-le-zero h)
powers_at i (suc n) zero h = rw add-zero
powers_at i (suc n) (suc k) h = powers_at (suc i) n k (le_of_suc-le-suc h) ∙ rw (add-suc, suc-add)

-- a power of ten is at least 1, whatever the exponent
pub power_positive : (k : ℕ) → 0 < 10 ^ k
power_positive zero = omega arith
power_positive (suc k) = rw pow-suc (omega (arith, power_positive k))

-- the last k digits of a number, zeros in front, are k digits
pub padded-length : (k n : ℕ) → length (padded k n) ≡ k
unfolding padded
padded-length zero n = refl
padded-length (suc k) n = rw length-append (omega (arith, padded-length k (n / 10)))

-- the first digit, and the rest
pub padded_first : (k n d r : ℕ) → n ≡ d * 10 ^ k + r → d < 10 → r < 10 ^ k → padded (suc k) n ≡ (48 + d) ∷ padded k r
unfolding padded
padded_first zero n d r e hd hr =
    let m : n % 10 ≡ d = omega arith in
    rw m
padded_first (suc k) n d r e hd hr =
    let p : d * 10 ^ suc k ≡ d * 10 ^ k * 10 = ap (λ (m : ℕ). d * m) (pow-suc 10 k) ∙ sym (mul_assoc d (10 ^ k) 10) in
    let s : r < 10 ^ k * 10 = subst (λ (m : ℕ). r < m) (pow-suc 10 k) hr in
    let q : n / 10 ≡ d * 10 ^ k + r / 10 = omega arith in
    let m : n % 10 ≡ r % 10 = omega arith in
    rw (padded_first k (n / 10) d (r / 10) q hd (omega arith), m)

-- a number below ten is its one digit
pub one_padded : (n : ℕ) → n < 10 → decimal_in 1 n ≡ padded 1 n
unfolding padded
one_padded n h =
    let m : n % 10 ≡ n = omega arith in
    decimal_one 0 n h ∙ rw m

-- a number that reaches its highest power has no zero in front
pub decimal_padded : (k n : ℕ) → 10 ^ k ≤ n → n < 10 ^ suc k → decimal_in (suc k) n ≡ padded (suc k) n
unfolding padded
decimal_padded zero n lo hi = one_padded n hi
decimal_padded (suc k) n lo hi =
    let p : 10 ^ k * 10 ≤ n = subst (λ (m : ℕ). m ≤ n) (pow-suc 10 k) lo in
    let one : 0 < 10 ^ k = power_positive k in
    decimal_two (suc k) n (omega arith) ∙ ap (λ (l : List ℕ). l ++ (48 + n % 10) ∷ []) (decimal_padded k (n / 10) (omega arith) (tenth k n hi))
