-- `put_lists` writes a list for each holding part. The invariant: the first b are written.
use Rattle.std.proofs.Common.{◌≡◌, ℕ, subst, arith}
use Rattle.held_tables.specs.Fill.{Lists}
use Rattle.held_tables.proofs.Lists.{lists_none, lists_more}
use Rattle.held_tables.proofs.needs.put_lists.Goals as goal

pub loop-b-init : goal.loop-b-init
loop-b-init c = lists_none c.args.needs.now.marks.now c.args.classes.now c.args.u.now

pub loop-b-preserved : goal.loop-b-preserved
loop-b-preserved c = let l = c.loop-b in
    let a = c.args in
    let p = c.put_list-n in
    lists_more a.needs.now.marks.now a.classes.now l.b p.result a.u.now l.u p.new.u (omega (arith, a.needs.now.few)) a.classes.now.led.most (omega arith) p.ensures l.invariant

pub returns : goal.returns
returns c = let a = c.args in
    let l = c.loop-b in
    let z : l.b ≡ a.needs.now.holding = omega arith in
    subst (λ (n : ℕ). Lists a.needs.now.marks.now a.classes.now n a.u.now l.u) z l.invariant
