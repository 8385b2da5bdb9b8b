-- `cover_of`: the lines stand or not, as they did.
use Rattle.covers.specs.Views.{cover_there}
use Rattle.part_writing.specs.Views.{cover_said}
use Rattle.carried_writing.proofs.part.cover_of.Goals as goal

pub returns-then-covered : goal.returns-then-covered
unfolding cover_said cover_there
returns-then-covered c = rw c.if-covered.true

pub returns-else-covered : goal.returns-else-covered
unfolding cover_said cover_there
returns-else-covered c = rw c.if-covered.false
