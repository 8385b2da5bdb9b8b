use Prim.Native.Nat.{◌*◌, ◌-◌, ◌<◌, ◌≤◌}
use mathlib.Core.List.{List}
use Rattle.model.specs.Model.{Job}
use Rattle.model.specs.Decisions.{Held}
use Rattle.shares.specs.Shares.{Shares, FairShares}
use Rattle.shares.specs.Certificate.{NoneUnder}
use Rattle.shares.specs.Dolls.{LiftedFrom}
use Rattle.lane_rows.specs.Layout.{inf}
use Rattle.share_walk.specs.State.{Solvable}
use Rattle.share_walk.specs.Courses.{lift_in}
use Rattle.cutoffs.proofs.rise.Given as goal

abbrev pub invariant-loop-low : goal.invariant-loop-low
invariant-loop-low l =
    (l.k ≤ l.last) × (l.gap ≤ inf * 2) × (l.low < l.last → l.low < l.k) × (l.floor ≤ l.low) × (l.last ≤ inf)
    × ((job : Job) (shares : Shares) (lanes : List Held) → Solvable job shares lanes l.t l.x → FairShares job shares → LiftedFrom job shares 0 (lift_in l.lifts) → NoneUnder job l.floor → NoneUnder job l.low)

abbrev pub decreases-loop-low : goal.decreases-loop-low
decreases-loop-low l = l.last - l.low
