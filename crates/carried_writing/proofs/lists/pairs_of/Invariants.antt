use mathlib.Core.Path.{◌≡◌}
use mathlib.Core.List.{map}
use lib.ListN.{take}
use Rattle.lines.specs.Text.{texts}
use Rattle.carried_writing.specs.Lists.{held, pair_mark, low_in}
use Rattle.carried_writing.proofs.lists.pairs_of.Given as goal

abbrev pub invariant-loop-low : goal.invariant-loop-low
invariant-loop-low l = (held l.pairs.marks ≡ map pair_mark (take l.low-index l.lows)) × (held l.pairs.ends ≡ texts low_in (take l.low-index l.lows))
