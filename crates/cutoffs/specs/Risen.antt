-- What the end of the walks is worth.
use Rattle.std.specs.Prelude.{ℕ, ◌+◌, ◌<◌, ◌≤◌, ◌≡◌, min, Bool, Option, None, Some, Ok, Err, List, take}
use Rattle.model.specs.Model.{Job}
use Rattle.model.specs.LowerBound.{plan_at}
use Rattle.model.specs.Promise.{BestPlan, Any}
use Rattle.known_cost.specs.Known.{count_under}
use Rattle.shares.specs.Shares.{Shares}
use Rattle.shares.specs.Optimum.{tree_by}
use Rattle.shares.specs.Certificate.{NoneUnder}
use Rattle.shares.specs.Lift.{lifted_bound}
use Rattle.lane_rows.specs.Layout.{inf}
use Rattle.cutoffs.specs.declared.Risen.{Risen}
use Rattle.cutoffs.specs.declared.found.Undercut.{Undercut}
use Rattle.cutoffs.specs.declared.found.Over.{Over}

-- the last cutoff, where a plan of this cost is in hand: one above it, so that this plan or a better one is found; else the number for a missing price
abbrev pub last_of : Option ℕ → ℕ
last_of None = inf
last_of (Some cost) = min (cost + 1) inf

-- the walk by these shares with these lifts from some cutoff has more nodes than the limit
pub record CutWalk (job : Job) (shares : Shares) (lift : ℕ → ℕ) (in_hand : Option ℕ) (limit floor : ℕ) : Type 0 where
  pub cutoff : ℕ
  -- the cutoff is above the floor, so the walk is no repetition of one that ended
  pub above : floor < cutoff
  -- and no higher than the last one
  pub most : cutoff ≤ last_of in_hand
  pub longer : limit < count_under (tree_by job (lifted_bound job shares lift)) cutoff

-- how the walks of a job end, none of whose plans costs less than `known`
pub record RisenRight (job : Job) (shares : Shares) (lift : ℕ → ℕ) (known : ℕ) (in_hand : Option ℕ) (limit : ℕ) (best : List Bool) (r : Risen) : Type 0 where
  -- a plan that is found is the best of all, and its name is the first part of `best`
  pub plan_found_lem : (u : Undercut) → r.found ≡ Ok (Some u) → BestPlan job Any u.cost (plan_at job (take u.size best))
  -- a walk that is cut has more nodes than the limit
  pub longer : (o : Over) → r.found ≡ Err o → CutWalk job shares lift in_hand limit r.floor
  -- no plan costs less than the floor
  pub none_under : NoneUnder job r.floor
  -- and the floor is no lower than the one that was known
  pub risen : known ≤ r.floor
  -- where no plan is found and no walk is cut, no plan costs less than the last cutoff
  pub passed : r.found ≡ Ok None → last_of in_hand ≤ r.floor
