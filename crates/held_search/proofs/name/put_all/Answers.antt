-- `put_all` writes the decisions as one part of the name.
use Rattle.std.proofs.Common.{◌+◌, ◌-◌, length, arith}
use Rattle.held_search.proofs.Names.{all_wrote}
use Rattle.held_search.proofs.name.put_all.Goals as goal

pub returns : goal.returns
returns c = let a = c.args in
    rw c.copy_from_slice.ensures.after (all_wrote a.name.now a.from.now a.at (a.at + length a.from.now - a.at) (omega (arith, c.requires)))
