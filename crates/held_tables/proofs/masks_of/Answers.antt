-- `masks_of`: a lane's mask is that of the first lane of what is left of the set behind the lanes before it.
use Rattle.std.proofs.Common.{refl}
use Rattle.held_tables.proofs.Masks.{four_masks}
use Rattle.held_tables.proofs.masks_of.Goals as goal

pub returns : goal.returns
returns c = (refl, four_masks c.args.set _ _ _ _ c.mask.ensures c.mask-2.ensures c.mask-3.ensures c.mask-4.ensures)
