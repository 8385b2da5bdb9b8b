use Prim.Native.Nat.{ℕ, ◌+◌, ◌≤◌, ◌<◌}
use mathlib.Core.Path.{◌≡◌}
use lib.ListN.{length, get_or}
use Rattle.model.specs.Model.{Job}
use Rattle.hall_model.specs.Hall.{Placed}
use Rattle.hall_jobs.specs.Views.{jobs_of}
use Rattle.hall_crew.specs.Crew.{opened_at}
use Rattle.hall_crew.proofs.row_behind.Given as goal

-- the lines before place d have their openings at the step, and the others not yet
pub record Stepping (l : goal.Live-loop-d) : Type 0 where
  pub size : length l.next ≡ 4
  pub done : (e : ℕ) (job : Job) → e < l.d → Placed (jobs_of l.hall) e job → get_or l.next e 0 ≡ get_or l.fn.row e 0 + opened_at job l.step
  pub rest : (e : ℕ) → l.d ≤ e → get_or l.next e 0 ≡ get_or l.fn.row e 0

abbrev pub invariant-loop-d : goal.invariant-loop-d
invariant-loop-d l = Stepping l
