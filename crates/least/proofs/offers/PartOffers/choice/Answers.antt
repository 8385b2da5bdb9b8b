-- `choice` walks forward over the suffix table. The invariant: the choice is what stands in front, and the choice from k on after the last change.
use Prim.Native.Nat.{◌+◌, ◌<◌}
use mathlib.Core.Bool.{Bool, false, cond}
use mathlib.Core.Path.{◌≡◌, ap, ◌∙◌}
use mathlib.Core.List.{List, ◌++◌}
use native.Mathlib.Omega.{arith}
use lib.ListN.{length, drop, replicate, length-replicate}
use lib.Seq.{length-take-le}
use Rattle.std.proofs.lemmas.List.{drop-replicate}
use Rattle.model.specs.Limits.{most_openings}
use Rattle.model.specs.LowerBound.{choice_of, offers}
use Rattle.model.proofs.Offers.{offers-length, offer_at, offers-drop}
use Rattle.least.proofs.Table.{mark_below, chosen_none, chosen_next, chosen_all, mark_next}
use Rattle.least.proofs.Rows.{changes_read}
use Rattle.least.proofs.offers.PartOffers.choice.Goals as goal
use Rattle.least.proofs.offers.PartOffers.choice.Goals.{then-changed, else-changed}

pub loop-k-init : goal.loop-k-init
loop-k-init c = let s = c.args.self.now in
    (omega arith, chosen_none _ _ _ _ _ _ (length-take-le (length s.positions.now) (replicate most_openings false) (omega (arith, length-replicate most_openings false, s.few))))

pub changes-requires : goal.changes-requires
changes-requires c = let z = c.loop-k.invariant.1.size in (omega (arith, c.fill.ensures.size), c.loop-k.invariant.0, omega (arith, z, c.loop-k-test.true, c.loop-k.auto.changed-items))

pub loop-k-preserved : goal.loop-k-preserved
loop-k-preserved c = let s = c.args.self.now in
    let l = c.loop-k in
    let r = c.changes in
    let n = length s.positions.now in
    let h : l.k < n = omega (arith, l.invariant.1.size, c.loop-k-test.true, l.auto.changed-items) in
    let i : c.if-changed.i ≡ cond r.result (l.k + 1) l.i = elim c.if-changed.branch [ then-changed w ↦ rw w.if-changed.true w.i-is | else-changed w ↦ rw w.if-changed.false w.i-is ] in (
      mark_below r.result l.k l.i c.if-changed.i l.invariant.0 i,
      chosen_next n _ _ _ (offers s.positions.now s.prices.now s.allowed.now) _ l.changed-items l.k (offer_at s.positions.now s.prices.now s.allowed.now l.k) r.result _ h
          (offers-drop s.positions.now s.prices.now s.allowed.now l.k h)
          (r.ensures ∙ changes_read _ _ _ s.positions.now s.prices.now s.allowed.now s.few s.flagged s.cheap c.fill.new.tab l.i l.k l.invariant.0 h c.fill.ensures)
          (mark_next _ s.positions.now r.result l.k l.i c.if-changed.i i)
          l.invariant.1,
    )

pub returns : goal.returns
returns c = let s = c.args.self.now in
    let l = c.loop-k in
    let n = length s.positions.now in
    let os = offers s.positions.now s.prices.now s.allowed.now in
    ap (λ (xs : List Bool). xs ++ drop n (replicate most_openings false))
    (chosen_all n s.life s.end s.first os _ l.changed-items l.k (offers-length s.positions.now s.prices.now s.allowed.now) (omega (arith, l.invariant.1.size, c.loop-k-test.false, l.auto.changed-items)) l.invariant.1)
    ∙ ap (λ (xs : List Bool). choice_of s.life s.end s.first os ++ xs) (drop-replicate n most_openings false)
