-- Each line's plan at the incumbent.
use Rattle.std.specs.Prelude.{ℕ, ◌≡◌, ◌<◌, List, length, get_or}
use Rattle.model.specs.LowerBound.{inner, stops_at, plan_at}
use Rattle.jobs.specs.declared.Job as code
use Rattle.jobs.specs.declared.Plan.{Plan}
use Rattle.jobs.specs.declared.accepted.Accepted.{Accepted}
use Rattle.jobs.specs.Views.{job_of, plan_for}
use Rattle.held_nodes.specs.State.{best_name}
use Rattle.hall_jobs.specs.declared.HallJobs.{HallJobs}
use Rattle.hall_state.specs.Courses.{Arrays, rows_at}

-- where the line's stops in the number and the removals that v has name a full node, the plan is that node's
abbrev pub PlanOf : code.Job → List ℕ → ℕ → Plan → Type 0
PlanOf j v mask p =
    length (stops_at (job_of j) (best_name (inner (job_of j)) (length (job_of j).openings) v mask)) ≡ length (job_of j).openings
    → plan_for j p ≡ plan_at (job_of j) (best_name (inner (job_of j)) (length (job_of j).openings) v mask)

-- the plans of a hall's lines
pub record PlansOf (h : HallJobs) (rows : Arrays) (masks : List ℕ) (plans : List Plan) : Type 0 where
  pub size : length plans ≡ 4
  pub each : (d : ℕ) (a : Accepted) (p : Plan) → d < h.count → PlanOf (get_or h.jobs d a).job (rows_at rows d).v (get_or masks d 0) (get_or plans d p)
