-- What the search by shares finds of a job: the best of all plans; or that one of its walks has more nodes than the limit; or that no plan costs less than the last cutoff. And a floor.
use Rattle.std.specs.Prelude.{ℕ, ◌≤◌, ◌≡◌, Bool, true, false, Option, Some, None, Result, Ok, Err, List, length}
use Rattle.branch.specs.declared.Bound.TheVariants.{Sum}
use Rattle.model.specs.Model.{Job}
use Rattle.model.specs.Promise.{BestPlan, Any}
use Rattle.shares.specs.Shares.{Shares, FairShares}
use Rattle.shares.specs.Certificate.{NoneUnder}
use Rattle.shares.specs.Lift.{Lifted}
use Rattle.jobs.specs.declared.Plan as code
use Rattle.search.specs.declared.Found.{Found}
use Rattle.search.specs.Found.{plan_found}
use Rattle.cutoffs.specs.declared.Risen.{Risen}
use Rattle.cutoffs.specs.declared.found.Undercut.{Undercut}
use Rattle.cutoffs.specs.declared.found.Over.{Over}
use Rattle.cutoffs.specs.Risen.{last_of, CutWalk, RisenRight}

-- a walk by some fair shares, with some lifts of its levels, from a cutoff above the floor, and at most one above what a plan in hand costs, has more nodes than the limit
pub record Longer (job : Job) (in_hand : Option ℕ) (limit floor : ℕ) : Type 0 where
  pub shares : Shares
  pub fair : FairShares job shares
  pub lift : ℕ → ℕ
  pub lifted : Lifted job shares lift
  pub cut : CutWalk job shares lift in_hand limit floor

-- the walks by some fair shares with some lifts end so, where no plan costs less than `known`
abbrev pub Rises : Job → ℕ → Option ℕ → ℕ → List Bool → Risen → Type 0
Rises job known in_hand limit best r = (shares : Shares) × FairShares job shares × (lift : ℕ → ℕ) × Lifted job shares lift × RisenRight job shares lift known in_hand limit best r

-- a walk was cut
abbrev pub over_of : Result (Option Undercut) Over → Bool
over_of (Ok o) = false
over_of (Err o) = true

-- what the plan costs that was found, if one was
abbrev pub cost_of : Result (Option Undercut) Over → Option ℕ
cost_of (Ok None) = None
cost_of (Ok (Some u)) = Some u.cost
cost_of (Err o) = None

-- where the walks ended, with this plan
abbrev pub found_of_lem : Risen → code.Plan → Found
found_of_lem r plan = record { count = 0; over = over_of r.found; cost = cost_of r.found; floor = Sum r.floor; plan = plan }

-- what is found of a job none of whose plans costs less than `known`, where a plan in hand, if there is one, costs `in_hand`
pub record Sought (job : Job) (known : ℕ) (in_hand : Option ℕ) (limit : ℕ) (r : Found) : Type 0 where
  -- a plan that is found is the best of all
  pub plan_found_lem : (c : ℕ) → r.cost ≡ Some c → BestPlan job Any c (plan_found (length job.openings) (length job.parts) r)
  -- the floor, which no plan costs less than, and which is no lower than the one that was known
  pub low : ℕ
  pub floor : r.floor ≡ Sum low
  pub none_under : NoneUnder job low
  pub risen : known ≤ low
  -- a walk that is cut has more nodes than the limit
  pub longer : r.over ≡ true → Longer job in_hand limit low
  -- where no plan is found and no walk is cut, no plan costs less than the last cutoff
  pub passed : r.cost ≡ None → r.over ≡ false → last_of in_hand ≤ low
