-- `note_lasts` notes one class after the other. The invariant: the first are noted.
use Prim.Native.Nat.{ℕ, ◌-◌, ◌<◌}
use mathlib.Core.Path.{◌≡◌, ap, subst, ◌∙◌}
use mathlib.Core.Bool.{cond}
use native.Mathlib.Omega.{arith}
use lib.Dec.{eqb}
use lib.ListN.{get_or}
use Rattle.base.specs.Filled.{FilledBy}
use Rattle.base.proofs.Filled.{filled_none, filled_more}
use Rattle.held_lanes.specs.Places.{bit_at, last_place, offset, classes_place}
use Rattle.held_lanes.specs.Tables.{noted}
use Rattle.held_lanes.proofs.Sets.{pick_mask}
use Rattle.held_lanes.proofs.note_lasts.Goals as goal

pub loop-c-init : goal.loop-c-init
loop-c-init c = (omega arith, filled_none)

pub bounds-m-lead : goal.bounds-m-lead
bounds-m-lead c = omega (arith, c.number-lead.ensures.value, c.requires.leads c.loop-c.c (omega (arith, c.number-n.ensures.value)))

pub loop-c-preserved : goal.loop-c-preserved
loop-c-preserved c = let l = c.loop-c in
    let a = c.args in
    let lead = c.number-lead.result in
    let h : lead < 16 = omega (arith, c.number-lead.ensures.value, c.requires.leads l.c (omega (arith, c.number-n.ensures.value))) in
    let old = l.invariant.1.rest (last_place (a.rows - 1) l.c) (λ y m z. omega (arith, z, c.requires.some, c.requires.few, c.number-n.ensures.value)) in
    let y = get_or a.v.now (last_place (a.rows - 1) l.c) 0 in (
      omega arith,
      filled_more c.pick.result (omega (arith, c.requires.row, c.requires.few, c.number-n.ensures.value)) (λ y m z. omega (arith, z))
          (c.pick.ensures
          ∙ (λ i. cond (eqb (c.spread.ensures.lanes lead h i) 0) (offset a.at l.c) (old i))
          ∙ pick_mask a.set lead (offset a.at l.c) y
          ∙ ap (λ (q : ℕ). cond (bit_at q a.set) y (offset a.at l.c)) c.number-lead.ensures.value)
          l.invariant.1,
    )

pub returns : goal.returns
returns c = let l = c.loop-c in
    let a = c.args in
    let z : l.c ≡ get_or a.u.now classes_place 0 = omega (arith, c.number-n.ensures.value) in
    subst (λ (k : ℕ). FilledBy (last_place a.rows) (noted a.u.now a.v.now a.at a.rows a.set) k a.v.now l.v) z l.invariant.1
