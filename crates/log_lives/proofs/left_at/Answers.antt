-- `left_at`: where the part is in reach, the signed differences are of small numbers and not negative; else more than the life was used.
use mathlib.Core.Path.{◌≡◌, refl, sym, ap, ap₂, ◌∙◌}
use mathlib.Core.Bool.{true, false, false≢true}
use Prim.Native.Nat.{ℕ, ◌+◌, ◌<◌, ◌≤◌}
use native.Mathlib.Omega.{arith}
use native.Mathlib.Decide.{dec_le}
use lib.IntN.{ℤ, pos, negsuc, ◌-ℤ◌}
use lib.Signed.{mag}
use mir.Syntax.{w32}
use mir.Val.{SFits, to_z, of_z}
use mir.Facts.{to_z-of_z}
use Rattle.model.specs.Model.{within}
use Rattle.base.proofs.Integers.{up, down, difference}
use Rattle.model.proofs.Positions.{near, near_within}
use Rattle.base.proofs.Diff.{mag_sub, diff_fits}
use Rattle.model.specs.Limits.{longest_life}
use Rattle.clock.specs.Placed.{Position, Begins}
use Rattle.clock.proofs.Ranges.{position_small, position_bits, before_small, before_bits, life_bits}
use Rattle.carry.specs.Carry.{natural}
use Rattle.carry.proofs.Gaps.{natural_is}
use Rattle.log_lives.proofs.left_at.Goals as goal
use Rattle.log_lives.proofs.left_at.Goals.{After-keeps, Else-not-keeps}

-- ---- the life not used, over plain numbers

over : (z : ℤ) → up z < down z → natural z ≡ 0
over (pos n) h = absurd (omega arith)
over (negsuc n) h = refl

module _ (life : ℕ) (last now : ℤ) where
  abbrev left : ℤ
  left = pos life -ℤ (now -ℤ last)

  in_life : within (pos life) last now ≡ true → pos (natural left) ≡ left
  in_life w = natural_is left (omega (arith, near (pos life) last now w, difference (pos life) (now -ℤ last), difference now last))

  over_life : within (pos life) last now ≡ false → natural left ≡ 0
  over_life w = go (dec_le (up now + (down last + 0)) (up last + (life + down now)))
    where
      go : Dec (up now + (down last + 0) ≤ up last + (life + down now)) → natural left ≡ 0
      go (yes l) = absurd (false≢true (sym w ∙ near_within (pos life) last now l))
      go (no l) = over left (omega (arith, l, difference (pos life) (now -ℤ last), difference now last))

  -- as an i32 holds them
  abbrev bits : ℤ
  bits = to_z w32 life -ℤ to_z w32 (of_z w32 (to_z w32 (of_z w32 now) -ℤ to_z w32 (of_z w32 last)))

  module _ (high : life ≤ longest_life) (begins : Begins life last) (ends : Position now) where
    small_last : mag last < 3000
    small_last = omega (arith, before_small life last high begins)

    small_now : mag now < 3000
    small_now = omega (arith, position_small now ends)

    used_bits : to_z w32 (of_z w32 now) -ℤ to_z w32 (of_z w32 last) ≡ now -ℤ last
    used_bits = rw (position_bits now ends, before_bits life last high begins)

    used_fits : SFits w32 (to_z w32 (of_z w32 now) -ℤ to_z w32 (of_z w32 last))
    used_fits = rw used_bits (diff_fits now last (omega (arith, small_now)) (omega (arith, small_last)))

    left_is : bits ≡ left
    left_is = ap₂ ◌-ℤ◌ (life_bits life high) (to_z-of_z used_fits ∙ used_bits)

    left_fits : SFits w32 bits
    left_fits = rw left_is (diff_fits (pos life) (now -ℤ last) (omega arith) (omega (arith, mag_sub now last, small_now, small_last)))

    -- what is handed over, where the part is in reach
    left-bits : within (pos life) last now ≡ true → to_z w32 (of_z w32 bits) ≡ pos (natural left)
    left-bits w = to_z-of_z left_fits ∙ left_is ∙ sym (in_life w)

-- ---- the needs

-- the test
tested : (c : After-keeps) → c.keeps.result ≡ within (pos c.args.life) c.args.last c.args.now
tested c = rw (to_z-of_z c.ranges.last, to_z-of_z c.ranges.now) at c.keeps.ensures

pub keeps-requires : goal.keeps-requires
keeps-requires c = (c.requires.0, rw (to_z-of_z c.ranges.last) c.requires.1, rw (to_z-of_z c.ranges.now) c.requires.2)

pub returns-then-not-keeps : goal.returns-then-not-keeps
returns-then-not-keeps c = sym (over_life c.args.life c.args.last c.args.now (sym (tested (goal.at.returns-then-not-keeps c).After-keeps) ∙ c.if-not-keeps.true))

-- what is handed over
given : (c : Else-not-keeps) → let a = c.args in to_z w32 (of_z w32 (bits a.life a.last a.now)) ≡ pos (natural (left a.life a.last a.now))
given c =
    left-bits c.args.life c.args.last c.args.now c.requires.0 c.requires.1 c.requires.2 (sym (tested c.before) ∙ c.if-not-keeps.false)

pub overflow_cast-result : goal.overflow_cast-result
overflow_cast-result c =
    let e = in_life c.args.life c.args.last c.args.now (sym (tested (goal.at.overflow_cast-result c).After-keeps) ∙ c.if-not-keeps.false) in
    let m = mag_sub (pos c.args.life) (c.args.now -ℤ c.args.last) in
    let m2 = mag_sub c.args.now c.args.last in
    let z = ap mag e in
    let low : natural (left c.args.life c.args.last c.args.now) ≤ 10000 = omega (arith, z, m, m2, c.requires.0, small_last c.args.life c.args.last c.args.now c.requires.0 c.requires.1 c.requires.2, small_now c.args.life c.args.last c.args.now c.requires.0 c.requires.1 c.requires.2) in
    rw (given (goal.at.overflow_cast-result c).Else-not-keeps) (omega arith)

pub returns : goal.returns
returns c = rw (given (goal.at.returns c).Else-not-keeps)
