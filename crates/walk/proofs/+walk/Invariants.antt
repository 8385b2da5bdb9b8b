use Prim.Native.Nat.{◌-◌}
use Rattle.model.specs.Limits.{most_openings}
use Rattle.walk.proofs.+walk.Given as goal

abbrev pub decreases-walk : goal.decreases-walk
decreases-walk l = most_openings - l.p.at
