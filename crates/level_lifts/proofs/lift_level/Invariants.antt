use Prim.Native.Nat.{◌+◌, ◌<◌}
use mathlib.Core.Path.{◌≡◌}
use mathlib.Core.List.{List}
use lib.ListN.{length}
use Rattle.model.specs.Model.{Job}
use Rattle.model.specs.Decisions.{Held}
use Rattle.shares.specs.Shares.{Shares, FairShares}
use Rattle.shares.specs.Dolls.{LiftedFrom}
use Rattle.share_walk.specs.State.{Solvable}
use Rattle.share_walk.specs.Courses.{lift_in}
use Rattle.level_lifts.proofs.lift_level.Given as goal

abbrev pub invariant-loop : goal.invariant-loop
invariant-loop l =
    (length l.lifts ≡ 65)
    × ((job : Job) (shares : Shares) (lanes : List Held) → Solvable job shares lanes l.t l.x → FairShares job shares → l.level < length job.openings → LiftedFrom job shares (l.level + 1) (lift_in l.fn.lifts) → LiftedFrom job shares l.level (lift_in l.lifts))
