-- Where positions and changes before them can lie, and that an i32 holds them. By the laws of the clock, and the signs.
use Prim.Native.Nat.{ℕ, ◌+◌, ◌≤◌}
use mathlib.Core.Path.{◌≡◌, refl, sym, ap, subst, ◌∙◌}
use native.Mathlib.Omega.{arith}
use lib.IntN.{ℤ, pos, negsuc, ◌-ℤ◌, +ℤ-neg_ℤ_cancel, pos-+ℤ-pos}
use lib.Signed.{mag}
use mir.Syntax.{w32}
use mir.Val.{to_z, of_z}
use Rattle.std.proofs.lemmas.Int.{to_z-of_z, to_z_pos}
use Rattle.model.specs.Model.{Job, clock}
use Rattle.base.proofs.Integers.{up, down, AtMostℤ, difference}
use Rattle.model.proofs.Positions.{in_range_lem}
use Rattle.clock.specs.Placed.{Position, Begins}
use Rattle.model.specs.Limits.{last_position, longest_life}

-- ---- positions

from_0 : (z : ℤ) (s : ℕ) → s ≤ last_position → AtMostℤ (pos 0) z → AtMostℤ z (pos s) → Position z
from_0 (pos n) s l g h = (n, refl, omega arith)
from_0 (negsuc n) s l g h = absurd (omega arith)

-- the position of a step up to the last
pub clocked : (job : Job) (s : ℕ) → s ≤ last_position → Position (clock job s)
clocked job s h =
    let r = in_range_lem job s in
    from_0 (clock job s) s h r.0 r.1

-- the size of a position is at most the last position
pub position_small : (z : ℤ) → Position z → mag z ≤ last_position
position_small z (k, e, l) = rw e l

-- what is read back from its bits
pub position_bits : (z : ℤ) → Position z → to_z w32 (of_z w32 z) ≡ z
position_bits z p = to_z-of_z w32 z (record { sfits = omega (arith, position_small z p) })

-- ---- the change before

-- a part is changed last at left − life
pub begins_first : (life left : ℕ) → left ≤ longest_life → Begins life (pos left -ℤ pos life)
begins_first life left h = (left, refl, omega arith)

-- and then at a position
pub begins_later : (life : ℕ) (z : ℤ) → life ≤ longest_life → Position z → Begins life z
begins_later life z h (k, e, l) = (k + life, e ∙ sym (+ℤ-neg_ℤ_cancel (pos k) (pos life)) ∙ ap (λ (x : ℤ). x -ℤ pos life) (pos-+ℤ-pos k life), omega arith)

mag_bound : (z : ℤ) (a b : ℕ) → up z + a ≡ down z + b → mag z ≤ a + b
mag_bound (pos n) a b e = omega arith
mag_bound (negsuc n) a b e = omega arith

module _ (life : ℕ) (prev : ℤ) (h : life ≤ longest_life) (b : Begins life prev) where
  -- the change before lies at most the last position and two longest lives away from 0
  pub before_small : mag prev ≤ last_position + longest_life + longest_life
  before_small = rw b.1 (omega (arith, b.2, mag_bound (pos b.0 -ℤ pos life) (0 + life) (b.0 + 0) (difference (pos b.0) (pos life))))

  -- the change before fits an i32: read back from its bits it is the same
  pub before_bits : to_z w32 (of_z w32 prev) ≡ prev
  before_bits = to_z-of_z w32 prev (record { sfits = omega (arith, before_small) })

-- so does the one before the first opening
pub first_bits : {life left : ℕ} {prev : ℤ} → prev ≡ pos left -ℤ pos life → life ≤ longest_life → left ≤ longest_life → to_z w32 (of_z w32 prev) ≡ prev
first_bits {life} {left} {prev} e h l = before_bits life prev h (subst (Begins life) (sym e) (begins_first life left l))

-- a life as a signed number
pub life_bits : (life : ℕ) → life ≤ longest_life → to_z w32 life ≡ pos life
life_bits life h = to_z_pos w32 life (omega arith)
