use Prim.Native.Nat.{◌+◌, ◌*◌}
use Rattle.std.specs.Prelude.{Some}
use Rattle.hall_walk.specs.Walk.{walk_measure, call_at, line_at, removal_at}
use Rattle.hall_walk.proofs.+walk.Given as goal

-- what is left to walk, and whether its question is told, and its spot made
abbrev pub decreases-walk : goal.decreases-walk
decreases-walk l = walk_measure l.to * 3 + 2

abbrev pub decreases-at_call : goal.decreases-at_call
decreases-at_call l = walk_measure (Some (call_at l.step l.total)) * 3 + 1

abbrev pub decreases-at_line : goal.decreases-at_line
decreases-at_line l = walk_measure (Some (line_at l.step l.line l.total)) * 3 + 1

abbrev pub decreases-at_removal : goal.decreases-at_removal
decreases-at_removal l = walk_measure (Some (removal_at l.step l.line l.stop l.total)) * 3 + 1

abbrev pub decreases-both : goal.decreases-both
decreases-both l = walk_measure (Some l.q) * 3
