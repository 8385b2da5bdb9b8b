-- `below_stop` is the node below a stop, by the two cases.
use Prim.Native.Nat.{◌+◌, ◌-◌, ◌<◌, ◌≤◌}
use mathlib.Core.Path.{sym, ap, subst, ◌∙◌}
use mathlib.Core.Bool.{Bool, true, false}
use native.Mathlib.Omega.{arith}
use lib.ListN.{get_or}
use Rattle.share_rows.specs.Places.{removal_place}
use Rattle.share_walk.specs.declared.Node.{Node}
use Rattle.share_walk.specs.State.{asked_n, Below}
use Rattle.share_walk.proofs.Nodes.{put_as, stop_fits, below_out, below_stays}
use Rattle.share_walk.proofs.below_stop.Goals as goal
use Rattle.share_walk.proofs.below_stop.Goals.{Start}

-- numbers of the node
fits : (c : Start) → let p = c.args.p in (0 < p.at) × (1 < p.rows) × (p.rows - 1 ≤ p.at) × (p.at ≤ 64) × (p.next < 16) × (p.size < 1088) × (p.spent + get_or c.args.x.now (removal_place p.next) 0 < 18446744073709551616)
fits c = let a = c.args in let e = c.requires in stop_fits e.0 e.1 e.2 e.3 a.t.now a.x.now a.w.now a.row.now a.p e.4 e.5

pub ease-requires : goal.ease-requires
ease-requires c = let f = fits (goal.at.ease-requires c).Start in (omega (arith, f.4), omega (arith, f.0, f.3), omega arith)

pub overflow_sub-p-then-out : goal.overflow_sub-p-then-out
overflow_sub-p-then-out c = omega (arith, (fits (goal.at.overflow_sub-p-then-out c).Start).1)

pub put_top-requires : goal.put_top-requires
put_top-requires c = let f = fits (goal.at.put_top-requires c).Start in (omega (arith, f.1, f.2, f.3), f.2, f.3, omega arith)

pub asked-requires : goal.asked-requires
asked-requires c = let f = fits (goal.at.asked-requires c).Start in
    (f.4, f.5, omega (arith, f.6, c.from.ensures))

pub returns-then-out : goal.returns-then-out
returns-then-out c = λ job shares course s ab o.
    let a = c.args in
    let pu = c.put_top in
    let w' = pu.new.w in
    subst (λ (b : Bool). Below job shares course s a.t.now a.x.now a.w.now w' a.p b c.asked.result) (sym c.if-out.true)
    (subst (λ (r : Node). Below job shares course s a.t.now a.x.now a.w.now w' a.p true r) (sym (c.asked.ensures ∙ ap (asked_n a.p) c.from.ensures))
    (below_out job shares course s a.t.now a.x.now a.w.now a.row.now a.p ab o w' (put_as c.ease.ensures.lanes pu.ensures.put) (pu.ensures.memo a.t.now ab.numbers.tables.wide (ab.stop o).memo)))

pub overflow_sub-p-2 : goal.overflow_sub-p-2
overflow_sub-p-2 c = omega (arith, (fits (goal.at.overflow_sub-p-2 c).Start).1)

pub shut-requires : goal.shut-requires
shut-requires c = let f = fits (goal.at.shut-requires c).Start in (omega (arith, f.4), omega arith)

pub put_top-requires-2 : goal.put_top-requires-2
put_top-requires-2 c = let f = fits (goal.at.put_top-requires-2 c).Start in (omega (arith, f.1, f.2, f.3), f.2, f.3, omega arith)

pub returns : goal.returns
returns c = λ job shares course s ab o.
    let a = c.args in
    let pu = c.put_top-2 in
    let w' = pu.new.w in
    subst (λ (b : Bool). Below job shares course s a.t.now a.x.now a.w.now w' a.p b c.asked-2.result) (sym c.if-out.false)
    (subst (λ (r : Node). Below job shares course s a.t.now a.x.now a.w.now w' a.p false r) (sym c.asked-2.ensures)
    (below_stays job shares course s a.t.now a.x.now a.w.now a.row.now a.p ab o w' (put_as c.shut.ensures.lanes pu.ensures.put) (pu.ensures.memo a.t.now ab.numbers.tables.wide (ab.stop o).memo)))
