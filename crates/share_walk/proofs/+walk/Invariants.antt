use Prim.Native.Nat.{◌+◌, ◌-◌, ◌*◌}
use Rattle.model.specs.Limits.{most_openings, most_parts}
use Rattle.share_walk.proofs.+walk.Given as goal

-- what is left to decide, and whether the node is tested
abbrev pub decreases-walk : goal.decreases-walk
decreases-walk l = ((most_openings - l.p.at) * (most_parts + 1) + (most_parts - l.p.next)) * 2 + 1

abbrev pub decreases-onward : goal.decreases-onward
decreases-onward l = ((most_openings - l.p.now.at) * (most_parts + 1) + (most_parts - l.p.now.next)) * 2
