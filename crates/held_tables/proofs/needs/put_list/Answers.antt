-- `put_list` enters one class after the other. The invariant: those of the first classes that need b are entered.
use Rattle.std.proofs.Common.{◌≡◌, ℕ, take, get_or, ap, sym, ◌∙◌, length-take-le, arith}
use lib.Seq.{get_or-take}
use Rattle.part_classes.specs.Grouped.{need_at, need_in}
use Rattle.held_tables.proofs.Lists.{entered_none, entered_more, entered_not, listed_all}
use Rattle.held_tables.proofs.needs.put_list.Goals as goal
use Rattle.held_tables.proofs.needs.put_list.Goals.{then-needs_part, else-needs_part}

pub loop-c-init : goal.loop-c-init
loop-c-init c = entered_none c.args.needs.now.marks.now c.args.classes.now c.args.b c.args.u.now

pub loop-c-preserved : goal.loop-c-preserved
loop-c-preserved c = let l = c.loop-c in
    let a = c.args in
    let n = a.needs.now.marks.now in
    let k = a.classes.now in
    let lead : need_at n (get_or (take k.count k.leads) l.c 0) a.b ≡ need_in n k a.b l.c = ap (λ (q : ℕ). need_at n q a.b) (get_or-take k.count k.leads l.c 0 (omega (arith, length-take-le k.count k.leads (omega (arith, k.led.room, k.led.most))))) in
    elim c.if-needs_part.branch [
      | then-needs_part w ↦ rw (w.n-is, w.u-is) (entered_more n k a.b l.c l.n a.u.now l.u l.invariant (sym lead ∙ sym c.needs_part.ensures ∙ w.if-needs_part.true) (omega (arith, k.led.most)) c.requires (omega arith))
      | else-needs_part w ↦ rw (w.n-is, w.u-is) (entered_not n k a.b l.c l.n a.u.now l.u l.invariant (sym lead ∙ sym c.needs_part.ensures ∙ w.if-needs_part.false))
    ]

pub returns : goal.returns
returns c = let l = c.loop-c in
    let a = c.args in
    listed_all a.needs.now.marks.now a.classes.now a.b l.c l.n a.u.now l.u (omega arith) l.invariant
