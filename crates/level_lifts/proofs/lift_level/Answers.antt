-- `lift_level`: the invariant says that the lifts are good from the level on. It holds at first by the lift of the next level, and after each walk by what that says.
use Prim.Native.Nat.{◌+◌}
use mathlib.Core.Path.{◌∙◌}
use native.Mathlib.Omega.{arith}
use lib.ListN.{get_or, length-set}
use Rattle.level_lifts.proofs.Levels.{lifted_next, lifted_again}
use Rattle.level_lifts.proofs.lift_level.Goals as goal

pub loop-init : goal.loop-init
loop-init c = (length-set c.args.lifts.now c.args.level (get_or c.args.lifts.now (c.args.level + 1) 0) ∙ omega arith, λ job shares lanes so fair h ok. lifted_next job shares fair c.args.level c.args.lifts.now h (omega (arith, so.tables.few)) ok)

pub returns-then-not-tried : goal.returns-then-not-tried
returns-then-not-tried c = λ job shares lanes so fair h ok.
    let i = c.loop.invariant in
    let up = i.1 job shares lanes so fair h ok in
    lifted_again job shares fair c.args.level c.in-Some.tried.lift c.loop.lifts h (omega (arith, so.tables.few, i.0)) up (c.try_level.ensures job shares lanes c.in-Some.tried so fair (omega arith) up c.in-Some.is)

pub returns-then-nodes-gt-NODES : goal.returns-then-nodes-gt-NODES
returns-then-nodes-gt-NODES c = λ job shares lanes so fair h ok.
    let i = c.loop.invariant in
    let up = i.1 job shares lanes so fair h ok in
    lifted_again job shares fair c.args.level c.in-Some.tried.lift c.loop.lifts h (omega (arith, so.tables.few, i.0)) up (c.try_level.ensures job shares lanes c.in-Some.tried so fair (omega arith) up c.in-Some.is)

pub loop-preserved : goal.loop-preserved
loop-preserved c = (
  length-set c.loop.lifts c.args.level c.in-Some.tried.lift ∙ c.loop.invariant.0,
  λ job shares lanes so fair h ok.
      let i = c.loop.invariant in
      let up = i.1 job shares lanes so fair h ok in
      lifted_again job shares fair c.args.level c.in-Some.tried.lift c.loop.lifts h (omega (arith, so.tables.few, i.0)) up (c.try_level.ensures job shares lanes c.in-Some.tried so fair (omega arith) up c.in-Some.is),
)
