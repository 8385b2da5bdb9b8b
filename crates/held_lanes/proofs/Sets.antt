-- Sets of lanes as numbers: four lanes at a time, and two sets together. By halving.
use Prim.Native.Nat.{ℕ, zero, suc, ◌+◌, ◌*◌, ◌/◌, ◌%◌, ◌^◌, ◌<◌, max}
use mathlib.Core.Path.{◌≡◌, refl, sym, ap, ap₂, ◌∙◌}
use mathlib.Core.Bool.{Bool, true, false, cond, not, ◌&&◌, ◌||◌}
use mathlib.Core.List.{List}
use native.Mathlib.Omega.{arith}
use lib.Bits.{bit_or, or_step}
use lib.Dec.{eqb}
use lib.ListN.{length, get_or}
use Rattle.branch.specs.Search.{snoc}
use Rattle.model.specs.Decisions.{accessible}
use Rattle.held_rows.proofs.Seen.{accessible_stays}
use Rattle.lane_rows.specs.Layout.{inf}
use Rattle.held_lanes.specs.Places.{bit_at, mask_of}

-- four lanes on
pub bit_four : (i s : ℕ) → bit_at (4 + i) s ≡ bit_at i (s / 16)
unfolding bit_at
bit_four i s =
    let z : 4 + i ≡ suc (suc (suc (suc i))) = omega arith in
    let y : s / 2 / 2 / 2 / 2 ≡ s / 16 = omega arith in
    ap (λ (k : ℕ). bit_at k s) z ∙ ap (bit_at i) y

-- the first four
pub bit_low : (i s : ℕ) → i < 4 → bit_at i (s % 16) ≡ bit_at i s
unfolding bit_at
bit_low zero s h = let z : s % 16 % 2 ≡ s % 2 = omega arith in ap (λ (x : ℕ). eqb x 1) z
bit_low (suc zero) s h = let z : s % 16 / 2 % 2 ≡ s / 2 % 2 = omega arith in ap (λ (x : ℕ). eqb x 1) z
bit_low (suc (suc zero)) s h = let z : s % 16 / 2 / 2 % 2 ≡ s / 2 / 2 % 2 = omega arith in ap (λ (x : ℕ). eqb x 1) z
bit_low (suc (suc (suc zero))) s h = let z : s % 16 / 2 / 2 / 2 % 2 ≡ s / 2 / 2 / 2 % 2 = omega arith in ap (λ (x : ℕ). eqb x 1) z
bit_low (suc (suc (suc (suc i)))) s h = absurd (omega arith)

-- a lane's bit, in the number that is left where the fours before its own are used up
left_over : (k i n s : ℕ) → k < 4 → n ≡ k * 4 + i → bit_at i (s / 2 ^ (k * 4)) ≡ bit_at n s
left_over zero i n s h e =
    let z : s / 1 ≡ s = omega arith in
    let y : i ≡ n = omega arith in
    ap₂ bit_at y z
left_over (suc zero) i n s h e = let y : 4 + i ≡ n = omega arith in sym (bit_four i s) ∙ ap (λ (x : ℕ). bit_at x s) y
left_over (suc (suc zero)) i n s h e =
    let z : s / 256 ≡ s / 16 / 16 = omega arith in
    let y : 4 + (4 + i) ≡ n = omega arith in
    ap (bit_at i) z ∙ sym (bit_four i (s / 16)) ∙ sym (bit_four (4 + i) s) ∙ ap (λ (x : ℕ). bit_at x s) y
left_over (suc (suc (suc zero))) i n s h e =
    let z : s / 4096 ≡ s / 16 / 16 / 16 = omega arith in
    let y : 4 + (4 + (4 + i)) ≡ n = omega arith in
    ap (bit_at i) z ∙ sym (bit_four i (s / 16 / 16)) ∙ sym (bit_four (4 + i) (s / 16)) ∙ sym (bit_four (4 + (4 + i)) s) ∙ ap (λ (x : ℕ). bit_at x s) y
left_over (suc (suc (suc (suc k)))) i n s h e = absurd (omega arith)

-- a lane's bit, in its own four
pub bit_in_four : (q s : ℕ) → q < 16 → bit_at (q % 4) (s / 2 ^ (q / 4 * 4) % 16) ≡ bit_at q s
bit_in_four q s h = bit_low (q % 4) (s / 2 ^ (q / 4 * 4)) (omega arith) ∙ left_over (q / 4) (q % 4) q s (omega arith) (omega arith)

-- no lane belongs to the empty set
pub bit_zero : (q : ℕ) → bit_at q 0 ≡ false
unfolding bit_at
bit_zero zero = refl
bit_zero (suc q) = bit_zero q

-- a lane of one of two sets
pub bit_or_lem : (q a b : ℕ) → bit_at q (bit_or a b) ≡ (bit_at q a || bit_at q b)
unfolding bit_at
bit_or_lem zero a b =
    let z : (bit_or (a / 2) (b / 2) * 2 + max (a % 2) (b % 2)) % 2 ≡ max (a % 2) (b % 2) = omega arith in
    ap (λ (x : ℕ). eqb (x % 2) 1) (or_step a b) ∙ ap (λ (x : ℕ). eqb x 1) z ∙ go (a % 2) (b % 2) (omega arith) (omega arith)
  where
    go : (x y : ℕ) → x < 2 → y < 2 → eqb (max x y) 1 ≡ (eqb x 1 || eqb y 1)
    go zero zero h g = refl
    go zero (suc zero) h g = refl
    go zero (suc (suc y)) h g = absurd (omega arith)
    go (suc zero) zero h g = refl
    go (suc zero) (suc zero) h g = refl
    go (suc zero) (suc (suc y)) h g = absurd (omega arith)
    go (suc (suc x)) y h g = absurd (omega arith)
bit_or_lem (suc q) a b =
    let z : (bit_or (a / 2) (b / 2) * 2 + max (a % 2) (b % 2)) / 2 ≡ bit_or (a / 2) (b / 2) = omega arith in
    ap (λ (x : ℕ). bit_at q (x / 2)) (or_step a b) ∙ ap (bit_at q) z ∙ bit_or_lem q (a / 2) (b / 2)

-- the lanes that a stop is shut to, with one part more that is not removed
pub shut_more : (needs rs : List Bool) (q a b : ℕ) → bit_at q a ≡ not (accessible needs rs) → bit_at q b ≡ get_or needs (length rs) false → bit_at q (bit_or a b) ≡ not (accessible needs (snoc rs false))
shut_more needs rs q a b e f = bit_or_lem q a b ∙ ap₂ (λ (x y : Bool). x || y) e f ∙ go (accessible needs rs) (get_or needs (length rs) false) ∙ ap not (sym (accessible_stays needs rs))
  where
    go : (x y : Bool) → (not x || y) ≡ not (x && not y)
    go true true = refl
    go true false = refl
    go false y = refl

-- a choice by the mask is a choice by the set
pub pick_mask : (s q x y : ℕ) → cond (eqb (mask_of s q) 0) x y ≡ cond (bit_at q s) y x
pick_mask s q x y = go (bit_at q s)
  where
    go : (b : Bool) → cond (eqb (cond b inf 0) 0) x y ≡ cond b y x
    go true = refl
    go false = refl
