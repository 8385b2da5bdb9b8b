-- `changed` asks `change_at` of a mark and an opening: their difference fits.
use Prim.Native.Nat.{suc}
use native.Mathlib.Omega.{arith}
use lib.ListN.{get_or}
use lib.IntN.{pos}
use Rattle.reach.proofs.Gaps.{gap_fits}
use Rattle.least.proofs.offers.PartOffers.changed.Goals as goal

pub change_at-requires : goal.change_at-requires
change_at-requires c = let s = c.args.self.now in
    gap_fits (get_or s.positions.now c.args.j (pos 0)) c.mark.result s.first s.positions.now c.args.i (s.small (suc c.args.j)) c.mark.ensures (record { sfits = omega (arith, s.small 0) }) s.small
