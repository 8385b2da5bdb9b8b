-- `reaches` is the gap test of a mark and the place behind k openings: their difference fits.
use mathlib.Core.Path.{sym, subst}
use native.Mathlib.Omega.{arith}
use Rattle.base.specs.Signed.{Bits31}
use Rattle.reach.proofs.Gaps.{gap_fits}
use Rattle.node_counts.proofs.Near.{place_small}
use Rattle.node_counts.proofs.PartGaps.reaches.Goals as goal

pub in_reach-requires : goal.in_reach-requires
in_reach-requires c = let s = c.args.self.now in
    gap_fits c.place.result c.mark.result s.first s.positions.now c.args.m (subst Bits31 (sym c.place.ensures) (place_small s.end s.first s.positions.now c.args.k s.late s.small)) c.mark.ensures
    (record { sfits = omega (arith, s.small 0) }) s.small
