use mathlib.Core.Path.{◌≡◌}
use lib.ListN.{length}
use Rattle.latest_changes.proofs.Nexts.{Found}
use Rattle.latest_changes.proofs.next_stops.Given as goal

abbrev pub invariant-loop-i : goal.invariant-loop-i
invariant-loop-i l = (length l.nexts ≡ 64) × Found l.n l.positions l.stops l.i l.nexts l.next
