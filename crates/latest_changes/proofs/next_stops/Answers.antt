-- `next_stops`: from the last opening to the first, the entries from i on are there.
use Prim.Native.Nat.{◌-◌}
use mathlib.Core.Path.{refl, sym, ap, subst, ◌∙◌}
use mathlib.Core.Bool.{Bool, cond}
use native.Mathlib.Omega.{arith}
use lib.ListN.{get_or, length-set}
use lib.IntN.{ℤ, pos}
use mir.Syntax.{w32}
use mir.Val.{to_z}
use Rattle.clock.proofs.Ranges.{position_bits}
use Rattle.latest_changes.proofs.Nexts.{Found, found_none, found_more, found_all}
use Rattle.latest_changes.proofs.next_stops.Goals as goal

pub loop-i-init : goal.loop-i-init
loop-i-init c = let p = c.args.positions.now in
    (refl, subst (Found c.args.n p c.args.stops.now c.args.n _) (sym (position_bits p.end c.requires.end)) (found_none c.args.n p c.args.stops.now c.requires _ refl))

pub loop-i-preserved-then-stops-i : goal.loop-i-preserved-then-stops-i
loop-i-preserved-then-stops-i c = let l = c.loop-i in
    let p = c.args.positions.now in
    let here = get_or p.at (l.i - 1) (pos 0) in
    let pick : Bool → ℤ = λ b. cond b here (to_z w32 l.next-bits) in
    let bits = position_bits here (c.requires.openings (l.i - 1) (omega (arith, c.loop-i-test.true, l.auto.i))) in (
      length-set l.nexts (l.i - 1) (to_z w32 l.next-bits) ∙ l.invariant.0,
      found_more c.args.n p c.args.stops.now c.requires l.i l.nexts (to_z w32 l.next-bits) _ c.loop-i-test.true l.auto.i (bits ∙ sym (ap pick c.if-stops-i.true)) l.invariant.1,
    )

pub loop-i-preserved : goal.loop-i-preserved
loop-i-preserved c = let l = c.loop-i in
    let p = c.args.positions.now in
    let pick : Bool → ℤ = λ b. cond b (get_or p.at (l.i - 1) (pos 0)) (to_z w32 l.next-bits) in (
      length-set l.nexts (l.i - 1) (to_z w32 l.next-bits) ∙ l.invariant.0,
      found_more c.args.n p c.args.stops.now c.requires l.i l.nexts (to_z w32 l.next-bits) _ c.loop-i-test.true l.auto.i (sym (ap pick c.if-stops-i.false)) l.invariant.1,
    )

pub returns : goal.returns
returns c = let l = c.loop-i in
    found_all c.args.n c.args.positions.now c.args.stops.now l.i l.nexts (to_z w32 l.next-bits) (omega arith) l.invariant.1
