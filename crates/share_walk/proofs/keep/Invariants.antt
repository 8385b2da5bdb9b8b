use mathlib.Core.Path.{◌≡◌}
use lib.ListN.{length, take}
use Rattle.share_walk.proofs.keep.Given as goal

abbrev pub invariant-loop-i : goal.invariant-loop-i
invariant-loop-i l = (length l.best ≡ length l.initial.best) × (take l.i l.best ≡ take l.i l.name)
