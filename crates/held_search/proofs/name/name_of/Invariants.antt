use Prim.Native.Nat.{◌*◌, ◌≤◌}
use mathlib.Core.Path.{◌≡◌}
use lib.ListN.{length, take}
use Rattle.model.specs.Decisions.{concat}
use Rattle.held_nodes.specs.State.{blocks_of, best_in}
use Rattle.held_search.proofs.name.name_of.Given as goal

abbrev pub invariant-loop-stop : goal.invariant-loop-stop
invariant-loop-stop l = (l.at ≤ length l.yielded * 17) × (take l.at l.name ≡ concat (take (length l.yielded) (blocks_of l.h (best_in l.v) l.n l.mask)))
