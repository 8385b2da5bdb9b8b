-- `mask` tells the lowest bit.
use Prim.Native.Nat.{◌%◌}
use mathlib.Core.Path.{sym, ap}
use mathlib.Core.Bool.{Bool, cond}
use borrow.Author.Tests.{eq-eqb, ne_eqb}
use Rattle.lane_rows.specs.Layout.{inf}
use Rattle.held_lanes.specs.Places.{bit_at}
use Rattle.held_tables.proofs.mask.Goals as goal

pub returns-then-set-eq1 : goal.returns-then-set-eq1
unfolding bit_at
returns-then-set-eq1 c = sym (ap (λ (b : Bool). cond b inf 0) (eq-eqb (c.args.set % 2) 1 c.if-set-eq1.true))

pub returns-else-set-eq1 : goal.returns-else-set-eq1
unfolding bit_at
returns-else-set-eq1 c = sym (ap (λ (b : Bool). cond b inf 0) (ne_eqb (c.args.set % 2) 1 c.if-set-eq1.false))
