-- `put_leads` writes the leads. The invariant: the first c are written.
use Prim.Native.Nat.{ℕ, ◌+◌, ◌-◌}
use Rattle.std.proofs.Common.{arith}
use lib.ListN.{get_or}
use Rattle.base.proofs.Filled.{filled_by}
use Rattle.held_lanes.specs.Places.{mask_base}
use Rattle.held_tables.proofs.put_leads.Goals as goal

pub returns : goal.returns
returns c = let k = c.args.classes.now in
    filled_by c.args.u.now c.loop-c.place-items (mask_base + 64) k.count (mask_base + 64 + k.count - (mask_base + 64)) (λ (y : ℕ). get_or k.leads y 0) (omega arith) (omega (arith, k.led.most)) (omega (arith, k.led.most))
    (λ y h. c.loop-c.invariant y (omega (arith, h, k.led.most)))
