-- `latest_of`: after i openings, the changes made and what the rest gives from the last of them on are the latest.
use Rattle.model.specs.Limits.{longest_life}
use Prim.Native.Nat.{ℕ, ◌≤◌}
use mathlib.Core.Path.{◌≡◌, sym, ap, subst, ◌∙◌}
use mathlib.Core.Bool.{Bool, true, false, cond, not, ◌&&◌}
use native.Mathlib.Omega.{arith}
use lib.ListN.{get_or, take, length-set}
use lib.IntN.{ℤ, pos}
use mir.Syntax.{w32}
use mir.Val.{to_z, of_z}
use Rattle.model.specs.Model.{within}
use Rattle.latest.specs.Latest.{latest_from}
use Rattle.clock.specs.Placed.{Begins, Position}
use Rattle.clock.proofs.Ranges.{position_bits, begins_later, first_bits}
use Rattle.latest_changes.proofs.Made.{made_next, made_end}
use Rattle.latest_changes.proofs.latest_of.Goals as goal
use Rattle.latest_changes.proofs.latest_of.Goals.{then-change, else-change}

-- ---- what is known

-- a change at an opening, or none, begins a life
later_begins : (life : ℕ) (here prev : ℤ) → life ≤ longest_life → Position here → Begins life prev → (b : Bool) → Begins life (cond b here prev)
later_begins life here prev h r e true = begins_later life here h r
later_begins life here prev h r e false = e

-- ---- the needs

pub is_forced-change-requires : goal.is_forced-change-requires
is_forced-change-requires c =
    let next = get_or c.args.nexts.now c.loop-i.i (pos 0) in
    let range = c.requires.1.ranges c.loop-i.i c.loop-i-test.true in
    (c.requires.2.life_high, c.loop-i.invariant.1, rw (position_bits next range) range)

pub loop-i-preserved : goal.loop-i-preserved
loop-i-preserved c =
    let a = c.args in
    let l = c.loop-i in
    let prev = to_z w32 l.prev-bits in
    let here = get_or a.positions.now.at l.i (pos 0) in
    let next = get_or a.nexts.now l.i (pos 0) in
    let here_range = c.requires.0.openings l.i c.loop-i-test.true in
    let next_range = c.requires.1.ranges l.i c.loop-i-test.true in
    let change = c.is_forced-change.result in
    let new = to_z w32 c.if-change.prev-bits in
    let pick : Bool → ℤ = λ b. cond b here prev in
    let e : new ≡ pick change =
    elim c.if-change.branch [
      | then-change w ↦ w.prev-is ∙ position_bits here here_range ∙ sym (ap pick w.if-change.true)
      | else-change w ↦ w.prev-is ∙ sym (ap pick w.if-change.false)
    ] in
    let begins = subst (Begins a.part.now.life) (sym e) (later_begins a.part.now.life here prev c.requires.2.life_high here_range l.invariant.1 change) in (
      length-set l.at l.i change ∙ l.invariant.0,
      begins,
      made_next (pos a.part.now.life) (to_z w32 (of_z w32 c.last_change-prev.result)) a.n a.positions.now a.stops.now c.requires.0 a.nexts.now c.requires.1 l.i l.at prev change new c.loop-i-test.true l.invariant.0
          (c.is_forced-change.ensures ∙ ap (λ (z : ℤ). get_or a.stops.now l.i false && not (within (pos a.part.now.life) prev z)) (position_bits next next_range)) e l.invariant.2,
    )

pub returns : goal.returns
returns c = let a = c.args in
    let l = c.loop-i in
    let same : l.i ≡ a.n = omega arith in
    made_end (pos a.part.now.life) (to_z w32 (of_z w32 c.last_change-prev.result)) a.n a.positions.now a.stops.now c.requires.0 l.at (to_z w32 l.prev-bits) (rw same at l.invariant.2)
    ∙ ap (λ (z : ℤ). latest_from (pos a.part.now.life) a.positions.now.end z (take a.n a.positions.now.at) (take a.n a.stops.now)) (first_bits c.last_change-prev.ensures c.requires.2.life_high (omega (arith, c.requires.2.life_high, c.requires.2.left_high)) ∙ c.last_change-prev.ensures)
