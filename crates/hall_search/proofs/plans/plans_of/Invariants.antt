use Prim.Native.Nat.{ℕ, ◌<◌}
use mathlib.Core.Path.{◌≡◌}
use lib.ListN.{length, get_or}
use Rattle.jobs.specs.declared.Plan.{Plan}
use Rattle.jobs.specs.declared.accepted.Accepted.{Accepted}
use Rattle.hall_state.specs.Courses.{rows_at}
use Rattle.hall_search.specs.Plans.{PlanOf}
use Rattle.hall_search.proofs.plans.plans_of.Given as goal

-- the lines before place d have their plans
pub record Planned (l : goal.Live-loop-d) : Type 0 where
  pub size : length l.plans ≡ 4
  pub done : (e : ℕ) (a : Accepted) (p : Plan) → e < l.d → PlanOf (get_or l.hall.jobs e a).job (rows_at l.rows e).v (get_or l.best e 0) (get_or l.plans e p)

abbrev pub invariant-loop-d : goal.invariant-loop-d
invariant-loop-d l = Planned l
