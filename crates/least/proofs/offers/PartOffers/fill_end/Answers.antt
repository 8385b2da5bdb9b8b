-- `fill_end` writes the row past the last opening. The invariant: its first i entries are written.
use Prim.Native.Nat.{◌+◌, ◌-◌, ◌*◌}
use native.Mathlib.Omega.{arith}
use lib.ListN.{length}
use Rattle.least.specs.Suffix.{marks, end_of}
use Rattle.base.proofs.Filled.{filled_by}
use Rattle.least.proofs.offers.PartOffers.fill_end.Goals as goal

pub returns : goal.returns
returns c = let s = c.args.self.now in
    let n = length s.positions.now in
    let at = n * marks in
    filled_by c.args.tab.now c.loop-i.price-items at (n + 1) (at + n + 1 - at) (end_of s.life s.end s.first s.positions.now) (omega arith) (omega (arith, s.few, c.requires)) (omega (arith, s.few, c.requires))
    (λ y h. c.loop-i.invariant y (omega (arith, h, s.few, c.requires)))
