-- Decisions in a number, how large part sums are, and what the state says: of part sums that are tested, and of the incumbent.
use Prim.Native.Nat.{ℕ, zero, suc, ◌+◌, ◌*◌, ◌/◌, ◌%◌, ◌^◌, ◌<◌, ◌≤◌}
use mathlib.Core.Path.{◌≡◌, refl, sym, ap}
use mathlib.Core.Bool.{Bool, true, false, cond}
use mathlib.Core.List.{List}
use native.Mathlib.Omega.{arith}
use native.Mathlib.Numerals.{add-one}
use native.Mathlib.Nat.{two-pow-succ, pow-le-pow_right}
use borrow.Author.Tests.{ltb-false, le-ltb}
use lib.Dec.{leb}
use lib.ListN.{length, length-append}
use Rattle.std.specs.Prelude.{Some, None}
use Rattle.branch.specs.declared.Bound.{Bound}
use Rattle.branch.specs.declared.Bound.TheVariants.{Missing, Sum}
use Rattle.branch.specs.Search.{none, plan, snoc}
use Rattle.branch.proofs.Bounds.{no_sum_lem}
use Rattle.lane_rows.specs.Layout.{lane_count_lem, inf, suffix_base, lanes_in}
use Rattle.lane_rows.specs.Rows.{lane, sum_lanes}
use Rattle.lane_rows.proofs.Lanes.{lane_most, sum_most}
use Rattle.search_state.specs.declared.Search.{Search}
use Rattle.search_state.specs.State.{bits, viewed, undropped, open_s, found_as}

-- ---- decisions in a number

-- k decisions in a number are k decisions
pub bits-length : (k m : ℕ) → length (bits k m) ≡ k
unfolding bits
bits-length zero m = refl
bits-length (suc k) m = simp length-append (omega (arith, bits-length k (m / 2)))

-- twice the number has the same decisions and then a no
pub bits_no : (k m : ℕ) → bits (k + 1) (m * 2) ≡ snoc (bits k m) false
unfolding bits
bits_no k m =
    let z : m * 2 / 2 ≡ m = omega arith in
    let y : m * 2 % 2 ≡ 0 = omega arith in
    rw (add-one, z, y)

-- twice the number and one has the same decisions and then a yes
pub bits_yes : (k m : ℕ) → bits (k + 1) (m * 2 + 1) ≡ snoc (bits k m) true
unfolding bits
bits_yes k m =
    let z : (m * 2 + 1) / 2 ≡ m = omega arith in
    let y : (m * 2 + 1) % 2 ≡ 1 = omega arith in
    rw (add-one, z, y)

-- with fewer than 64 decisions in a number, one decision more fits in 64 bits
pub mask_fits : (k m : ℕ) → m < 2 ^ k → k < 64 → m * 2 + 1 < 2 ^ 64
mask_fits k m h l =
    let z : 2 ^ k ≤ 2 ^ 63 = pow-le-pow_right {n = 2} (omega arith) {i = k} {j = 63} (omega arith) in
    omega arith

-- one decision more in a number takes one bit more
pub mask_next : (k m : ℕ) → m < 2 ^ k → m * 2 + 1 < 2 ^ (k + 1)
mask_next k m h =
    let z : 2 ^ suc k ≡ 2 ^ k + 2 ^ k = two-pow-succ k in
    rw (add-one k) (omega arith)

-- ---- part sums

-- no sum of lanes is above sixteen times the number for Missing
pub sums_low : (t w : List ℕ) (j n y : ℕ) → lanes_in t ≤ lane_count_lem → sum_lanes (lanes_in t) (λ (q : ℕ). lane t w suffix_base j q n) ≡ y → y ≤ lane_count_lem * inf
sums_low t w j n y h e = omega (arith, e, sum_most (λ (q : ℕ). lane t w suffix_base j q n) inf 0 (lanes_in t) (λ q. lane_most t w suffix_base j q n))

-- ---- what `open` says, by the part sums

module _ (limit spent : ℕ) (s : Search) where
  -- a node without part sums
  pub open_none : (e : Bound) → e ≡ Missing → Missing ≡ open_s limit spent e s
  open_none e f = rw f (go (leb limit s.count))
    where
      go : (b : Bool) → Missing ≡ cond b Missing Missing
      go true = refl
      go false = refl

  -- a node that x drops, larger part sums drop too
  pub open-drops : (x z : ℕ) → x ≤ z → open_s limit spent (Sum x) s ≡ Missing → Missing ≡ open_s limit spent (Sum z) s
  open-drops x z h e = go (leb limit s.count) e
    where
      dropped : (t : Bool) → viewed (spent + x) s ≡ t → cond t (Sum x) Missing ≡ Missing → viewed (spent + z) s ≡ false
      dropped true f g = absurd (no_sum_lem (Sum x) x g refl)
      dropped false f g = le-ltb (spent + z) s.cost (omega (arith, ltb-false (spent + x) s.cost f))

      go : (b : Bool) → cond b Missing (undropped spent (Sum x) s) ≡ Missing → Missing ≡ cond b Missing (undropped spent (Sum z) s)
      go true g = refl
      go false g = sym (ap (λ (b : Bool). cond b (Sum z) Missing) (dropped (viewed (spent + x) s) refl g))

-- ---- the incumbent

-- the cost and name that are handed over are those of the best full plan, if there is one
pub found_is : (b : Bool) (c : ℕ) (l : List Bool) → found_as l (cond b (Some c) None) ≡ cond b (plan c l) none
found_is true c l = refl
found_is false c l = refl
