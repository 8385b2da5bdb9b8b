-- A set of sixteen lanes, gathered from the last lane on: each lane more doubles it.
use Prim.Native.Nat.{ℕ, zero, suc, ◌+◌, ◌-◌, ◌*◌, ◌/◌, ◌%◌, ◌^◌, ◌<◌, ◌≤◌}
use mathlib.Core.Path.{◌≡◌, ap, ◌∙◌}
use mathlib.Core.Bool.{Bool, true, false, cond}
use native.Mathlib.Omega.{arith}
use lib.Dec.{eqb}
use Rattle.lane_rows.specs.Layout.{lane_count_lem}
use Rattle.held_lanes.specs.Places.{bit_at}
use Rattle.base.proofs.Bools.{cond_most}

-- as many sets as k lanes have
unfoldable pub sets_of : ℕ → ℕ
sets_of zero = 1
sets_of (suc k) = sets_of k * 2

-- the lanes from q on are gathered: lane q + i is the set's i
pub record Gathered (f : ℕ → Bool) (q set : ℕ) : Type 0 where
  -- the first lane that is gathered is one of the sixteen, or none is
  pub few : q ≤ lane_count_lem
  pub lanes : (i : ℕ) → q + i < lane_count_lem → bit_at i set ≡ f (q + i)
  -- a set of k lanes is a number below the number of sets that k lanes have
  pub small : set < sets_of (lane_count_lem - q)

module _ (f : ℕ → Bool) where
  -- past the last lane nothing is gathered, and the set is 0
  pub gathered_none : Gathered f lane_count_lem 0
  unfolding sets_of
  gathered_none = record { few = omega arith; lanes = λ i l. absurd (omega arith); small = omega arith }

  -- lane q
  pub gathered_more : (q set : ℕ) (b : Bool) → b ≡ f q → Gathered f (q + 1) set → Gathered f q (set * 2 + cond b 1 0)
  unfolding sets_of bit_at
  gathered_more q set b e g = record { few = omega (arith, g.few); lanes = λ i l. at i l; small = room }
    where
      low : (b : Bool) → eqb ((set * 2 + cond b 1 0) % 2) 1 ≡ b
      low true = let z : (set * 2 + 1) % 2 ≡ 1 = omega arith in ap (λ (x : ℕ). eqb x 1) z
      low false = let z : (set * 2 + 0) % 2 ≡ 0 = omega arith in ap (λ (x : ℕ). eqb x 1) z

      half : (b : Bool) → (set * 2 + cond b 1 0) / 2 ≡ set
      half true = omega arith
      half false = omega arith

      at : (i : ℕ) → q + i < lane_count_lem → bit_at i (set * 2 + cond b 1 0) ≡ f (q + i)
      at zero l = let z : q ≡ q + 0 = omega arith in low b ∙ e ∙ ap f z
      at (suc i) l = let z : q + 1 + i ≡ q + suc i = omega arith in ap (bit_at i) (half b) ∙ g.lanes i (omega arith) ∙ ap f z

      room : set * 2 + cond b 1 0 < sets_of (lane_count_lem - q)
      room = let z : lane_count_lem - q ≡ suc (lane_count_lem - (q + 1)) = omega (arith, g.few) in rw z (omega (arith, g.small, cond_most b 1))

  -- it stays small
  sets_more : (k d : ℕ) → sets_of k ≤ sets_of (d + k)
  unfolding sets_of
  sets_more k zero = let z : 0 + k ≡ k = omega arith in rw z (omega arith)
  sets_more k (suc d) = let z : suc d + k ≡ suc (d + k) = omega arith in rw z (omega (arith, sets_more k d))

  -- a set gathered so far fits in 16 bits
  pub gathered_fits : {q set : ℕ} → Gathered f q set → set < 2 ^ 16
  unfolding sets_of
  gathered_fits {q} {set} g =
      let z : q + (lane_count_lem - q) ≡ lane_count_lem = omega (arith, g.few) in
      let y : sets_of (q + (lane_count_lem - q)) ≡ 65536 = ap sets_of z in
      omega (arith, g.small, sets_more (lane_count_lem - q) q, y)

  -- once all lanes are gathered, each lane's bit is right, and the set fits in 16 bits
  pub gathered_all : (set : ℕ) → Gathered f 0 set → ((q : ℕ) → q < lane_count_lem → bit_at q set ≡ f q) × (set < 2 ^ 16)
  unfolding sets_of
  gathered_all set g = (λ q l. let z : 0 + q ≡ q = omega arith in g.lanes q (omega arith) ∙ ap f z, omega (arith, g.small))
