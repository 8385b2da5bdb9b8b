-- `in_reach` is the model's gap test: the signed difference fits an i32.
use mir.Facts.{to_z-of_z}
use Rattle.model.specs.Model.{within}
use Rattle.reach.proofs.in_reach.Goals as goal

pub returns : goal.returns
unfolding within
returns c = rw (to_z-of_z c.ranges.life, to_z-of_z c.ranges.prev, to_z-of_z c.ranges.position, to_z-of_z c.requires)
