use Prim.Native.Nat.{◌≤◌}
use mathlib.Core.List.{List}
use lib.ListN.{get_or}
use Rattle.model.specs.Model.{Job}
use Rattle.model.specs.Decisions.{Held}
use Rattle.shares.specs.Shares.{Shares, FairShares}
use Rattle.shares.specs.Dolls.{LiftedFrom}
use Rattle.lane_rows.specs.Layout.{count_place}
use Rattle.share_walk.specs.State.{Solvable}
use Rattle.share_walk.specs.Courses.{lift_in}
use Rattle.level_lifts.proofs.lift_levels.Given as goal

abbrev pub invariant-loop-level : goal.invariant-loop-level
invariant-loop-level l = (l.level ≤ get_or l.t count_place 0) × ((job : Job) (shares : Shares) (lanes : List Held) → Solvable job shares lanes l.t l.x → FairShares job shares → LiftedFrom job shares l.level (lift_in l.lifts))
