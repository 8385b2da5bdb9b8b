-- `keeps`: the gap test is the model's, on small numbers.
use native.Mathlib.Omega.{arith}
use mir.Facts.{to_z-of_z}
use Rattle.base.proofs.Diff.{diff_fits}
use Rattle.clock.proofs.Ranges.{position_small, before_small, life_bits}
use Rattle.clock.proofs.keeps.Goals as goal

pub in_reach-requires : goal.in_reach-requires
in_reach-requires c = let a = c.args in
    rw (to_z-of_z c.ranges.prev, to_z-of_z c.ranges.next)
    (diff_fits a.next a.prev (omega (arith, position_small a.next c.requires.2)) (omega (arith, before_small a.life a.prev c.requires.0 c.requires.1)))

pub returns : goal.returns
returns c = rw (life_bits c.args.life c.requires.0, to_z-of_z c.ranges.prev, to_z-of_z c.ranges.next) at c.in_reach.ensures
