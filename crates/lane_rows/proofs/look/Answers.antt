-- `look` is the top row's sum: the memo learns what it lacks, row by row.
use native.Mathlib.Omega.{arith}
use Rattle.lane_rows.proofs.Memory.{looks_again, looking_first, looking_next, looking_last}
use Rattle.lane_rows.proofs.look.Goals as goal

pub known_rows-known-requires : goal.known_rows-known-requires
known_rows-known-requires g c = (c.requires.some, omega (arith, c.requires.stack.few, c.requires.stack.near), c.requires.stack.near)

pub loop-m-init : goal.loop-m-init
loop-m-init g c = looking_first c.args.t.now c.args.w.now c.args.rows c.args.j c.known_rows-known.result c.requires c.known_rows-known.ensures.0 c.known_rows-known.ensures.1

pub learn-sum-requires : goal.learn-sum-requires
learn-sum-requires g c = let a = c.args in
    ((a.rows, looks_again a.t.now a.w.now c.loop-m.w a.rows a.j c.requires c.loop-m.invariant.recalled, c.loop-m-test.true), c.loop-m.invariant.known)

pub loop-m-preserved : goal.loop-m-preserved
loop-m-preserved g c = let a = c.args in
    let h = c.loop-m-test.true in
    looking_next a.t.now a.w.now c.loop-m.w c.learn-sum.new.w a.rows a.j c.loop-m.m c.loop-m.sum c.learn-sum.result c.requires c.loop-m.invariant h (c.learn-sum.ensures a.rows (looks_again a.t.now a.w.now c.loop-m.w a.rows a.j c.requires c.loop-m.invariant.recalled) h)

pub returns : goal.returns
returns g c = let l = c.loop-m in
    looking_last c.args.t.now c.args.w.now l.w c.args.rows c.args.j l.m l.sum c.requires l.invariant (omega (arith, c.loop-m-test.false))
