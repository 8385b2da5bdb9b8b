-- `classes_of` takes in one part after the other, of no part at first.
use Rattle.part_classes.proofs.Groups.{group_none}
use Rattle.part_classes.proofs.classes_of.Goals as goal

pub loop-q-init : goal.loop-q-init
loop-q-init c = group_none c.args.needs.now.marks.now c.args.needs.now.holding
