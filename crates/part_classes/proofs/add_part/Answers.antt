-- `add_part`: the class that is there, or a new one.
use Rattle.std.proofs.Common.{sym, arith}
use Rattle.part_classes.proofs.Groups.{group_old, group_new}
use Rattle.part_classes.proofs.add_part.Goals as goal

pub returns-in-Some : goal.returns-in-Some
returns-in-Some c = let n = c.args.needs.now in
    let k = c.args.classes.now in
    group_old n.marks.now n.holding _ c.args.q c.in-Some.c k.led c.requires.1 c.requires.0 c.in-Some.ensures.0 c.in-Some.ensures.1 c.in-Some.ensures.2

pub returns-in-None : goal.returns-in-None
returns-in-None c = let n = c.args.needs.now in
    let k = c.args.classes.now in
    group_new n.marks.now n.holding _ c.args.q k.count k.led c.requires.1 c.requires.0 (sym c.in-None.ensures) (omega arith)
