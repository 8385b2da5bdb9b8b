-- `below_opening` is the node below an opening, by the two cases.
use Prim.Native.Nat.{ℕ}
use mathlib.Core.Path.{sym, ap, subst, ◌∙◌}
use mathlib.Core.Bool.{Bool, true, false}
use native.Mathlib.Omega.{arith}
use Rattle.share_walk.specs.declared.Node.{Node}
use Rattle.share_walk.specs.State.{open_n, Below}
use Rattle.share_walk.proofs.Nodes.{opening_fits, opening_owing, below_no, below_stops}
use Rattle.share_walk.proofs.below_opening.Goals as goal

pub put_stop-requires : goal.put_stop-requires
put_stop-requires c = let a = c.args in
    let e = c.requires in
    (opening_owing e.0 e.1 e.2 e.3 a.t.now a.x.now a.w.now e.4 a.p e.5 e.6 e.7, (opening_fits e.0 e.1 e.2 e.3 a.t.now a.x.now a.w.now e.4 a.p e.5 e.6 e.7).4)

pub yes-requires : goal.yes-requires
yes-requires c = let a = c.args in
    let e = c.requires in
    let f = opening_fits e.0 e.1 e.2 e.3 a.t.now a.x.now a.w.now e.4 a.p e.5 e.6 e.7 in
    (f.0, f.1, f.2, omega (arith, f.3, c.from.ensures))

pub returns-then-yes : goal.returns-then-yes
returns-then-yes c = λ job shares course s row ab o l.
    let a = c.args in
    let pu = c.put_stop in
    let w' = pu.new.w in
    subst (λ (b : Bool). Below job shares course s a.t.now a.x.now a.w.now w' a.p b c.yes.result) (sym c.if-yes.true)
    (subst (λ (r : Node). Below job shares course s a.t.now a.x.now a.w.now w' a.p true r) (sym (c.yes.ensures ∙ ap (λ (k : ℕ). open_n a.p k true) c.from.ensures))
    (below_stops job shares course s a.t.now a.x.now a.w.now row a.p ab o l w' pu.ensures.put (pu.ensures.memo a.t.now ab.numbers.tables.wide (ab.opening o).memo)))

pub returns : goal.returns
returns c = λ job shares course s row ab o l.
    let a = c.args in
    subst (λ (b : Bool). Below job shares course s a.t.now a.x.now a.w.now a.w.now a.p b c.no.result) (sym c.if-yes.false)
    (subst (λ (r : Node). Below job shares course s a.t.now a.x.now a.w.now a.w.now a.p false r) (sym c.no.ensures)
    (below_no job shares course s a.t.now a.x.now a.w.now row a.p ab o l))
