-- `stops_of` decodes a mask. The invariant: the decisions not yet written, and then what is written, are all of them.
use Prim.Native.Nat.{◌-◌}
use mathlib.Core.Path.{refl, ◌∙◌}
use native.Mathlib.Omega.{arith}
use lib.ListN.{length-set}
use Rattle.search.proofs.Stops.{stops_none, stops_more, stops_all}
use Rattle.search.proofs.plan.stops_of.Goals as goal

pub loop-k-init : goal.loop-k-init
loop-k-init c = (refl, stops_none c.args.n c.args.mask)

pub loop-k-preserved : goal.loop-k-preserved
loop-k-preserved c = let l = c.loop-k in
    (length-set l.out (l.k - 1) _ ∙ l.invariant.0, stops_more l.out l.k l.m _ c.loop-k-test.true (omega (arith, l.invariant.0, c.requires)) l.invariant.1)

pub returns : goal.returns
returns c = let l = c.loop-k in stops_all l.out l.k l.m _ c.loop-k-test.false l.invariant.1
