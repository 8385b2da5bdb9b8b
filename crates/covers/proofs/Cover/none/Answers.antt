-- `Cover::none` meets its contract: no mark of sixteen is set, by computation.
use mathlib.Core.Path.{refl}
use Rattle.base.specs.Joined.{joined}
use Rattle.base.specs.Chosen.{chosen}
use Rattle.covers.proofs.Cover.none.Goals as goal

pub returns : goal.returns
unfolding chosen joined
returns c = refl
