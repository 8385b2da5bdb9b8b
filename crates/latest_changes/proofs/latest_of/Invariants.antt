use mathlib.Core.Path.{◌≡◌}
use lib.ListN.{length}
use lib.IntN.{pos}
use Rattle.clock.specs.Placed.{Begins}
use Rattle.latest_changes.proofs.Made.{MadeTo}
use Rattle.latest_changes.proofs.latest_of.Given as goal

abbrev pub invariant-loop-i : goal.invariant-loop-i
invariant-loop-i l = (length l.at ≡ 64) × Begins l.life l.prev × MadeTo (pos l.life) l.initial.prev l.n l.positions l.stops l.i l.at l.prev
