use Prim.Native.Nat.{ℕ, ◌+◌, ◌-◌}
use mathlib.Core.Path.{◌≡◌}
use mathlib.Core.List.{List, ◌++◌}
use Rattle.hall_model.specs.Hall.{horizon_of}
use Rattle.hall_model.specs.Agenda.{open_steps, crew_steps}
use Rattle.hall_jobs.specs.Views.{jobs_of, hall_of}
use Rattle.hall_crew.specs.Crew.{Rowed}
use Rattle.hall_crew.proofs.crew_steps.Given as goal

-- the rows of the steps looked at: with those that are left they are the crew's steps
pub record Looked (l : goal.Live-loop-step) : Type 0 where
  pub done : List ℕ
  pub left : done ++ open_steps (jobs_of l.hall) l.step (horizon_of (jobs_of l.hall) + 1 - l.step) ≡ crew_steps (hall_of l.hall)
  pub rowed : Rowed (jobs_of l.hall) done l.ats
  pub lines : l.ats.lines ≡ l.hall.count
  pub call : l.ats.call ≡ l.hall.call

abbrev pub invariant-loop-step : goal.invariant-loop-step
invariant-loop-step l = Looked l
