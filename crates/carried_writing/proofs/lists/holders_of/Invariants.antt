use mathlib.Core.Path.{◌≡◌}
use mathlib.Core.Bool.{false}
use Prim.Native.Nat.{◌+◌}
use lib.ListN.{get_or}
use Rattle.base.specs.Chosen.{chosen}
use Rattle.carried_writing.specs.Lists.{held}
use Rattle.carried_writing.proofs.lists.holders_of.Given as goal

abbrev pub invariant-loop-j : goal.invariant-loop-j
invariant-loop-j l = held l.holders ≡ chosen (λ i. get_or l.marks i false) (λ i. i + 1) l.j
