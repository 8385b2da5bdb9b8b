-- `reach` is the gap test of a mark and an opening: their difference fits.
use Prim.Native.Nat.{suc}
use native.Mathlib.Omega.{arith}
use lib.ListN.{get_or}
use lib.IntN.{pos}
use Rattle.reach.proofs.Gaps.{gap_fits}
use Rattle.search_tables.proofs.tables.reach.Goals as goal

pub in_reach-requires : goal.in_reach-requires
in_reach-requires c = let s = c.args.part.now in
    gap_fits (get_or s.positions.now c.args.j (pos 0)) c.mark.result s.first s.positions.now c.args.i (s.small (suc c.args.j)) c.mark.ensures (record { sfits = omega (arith, s.small 0) }) s.small
