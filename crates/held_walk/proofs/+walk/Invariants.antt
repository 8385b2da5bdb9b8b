use Prim.Native.Nat.{◌+◌, ◌-◌, ◌*◌}
use Rattle.held_walk.proofs.+walk.Given as goal

-- the openings and the stops at one that are not yet decided, and whether the walk has branched on the next
abbrev pub decreases-walk : goal.decreases-walk
decreases-walk l = ((64 - l.p.at) * 17 + (16 - l.p.next)) * 2 + 1

abbrev pub decreases-branch_on_removal : goal.decreases-branch_on_removal
decreases-branch_on_removal l = ((64 - l.p.at) * 17 + (16 - l.p.next)) * 2

abbrev pub decreases-branch_on_opening : goal.decreases-branch_on_opening
decreases-branch_on_opening l = ((64 - l.p.at) * 17 + (16 - l.p.next)) * 2
