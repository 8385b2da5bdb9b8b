-- `out_with`: so many rounds of holders are made.
use Rattle.coming_out.proofs.Rounds.{turned_none, turned_more, turned_all}
use Rattle.coming_out.proofs.out_with.Goals as goal

pub loop-init : goal.loop-init
loop-init c job held = turned_none job c.args.m c.args.holders.now held c.args.q c.requires.1 c.requires.0

pub loop-preserved : goal.loop-preserved
loop-preserved c job held = let l = c.loop in
    let a = c.args in
    turned_more job a.m a.holders.now held a.q l.counter l.row c.union-row.result c.loop-test.true c.union-row.ensures (l.invariant job held)

pub returns : goal.returns
returns c job held = let l = c.loop in
    let a = c.args in
    turned_all job a.m a.holders.now held a.q l.counter l.row c.loop-test.false (l.invariant job held)
