use Prim.Native.Nat.{ℕ, ◌*◌, ◌≤◌, ◌<◌}
use mathlib.Core.Path.{◌≡◌}
use mathlib.Core.List.{[]}
use lib.ListN.{length}
use Rattle.branch.specs.declared.Bound.TheVariants.{Sum}
use Rattle.branch.specs.Lower.{add}
use Rattle.model.specs.Model.{Job}
use Rattle.hall_model.specs.Hall.{Placed}
use Rattle.hall_model.specs.LowerBound.{hall_bound}
use Rattle.hall_nodes.proofs.Bounds.{slot_most}
use Rattle.hall_jobs.specs.Views.{jobs_of, hall_of}
use Rattle.hall_state.specs.Courses.{rows_at}
use Rattle.hall_tables.specs.Filled.{Begun, tables_in}
use Rattle.hall_tables.proofs.Floors.{left_floor}
use Rattle.hall_tables.proofs.fill_lines.Given as goal

-- the lines before place d have begun: their floors are summed up, and those of the others are left
pub record Filling (l : goal.Live-loop-d) : Type 0 where
  pub lines : length l.lines ≡ 4
  pub rows : length l.rows ≡ 4
  pub floor : add (Sum l.floor) (left_floor (hall_of l.hall) l.d) ≡ hall_bound (hall_of l.hall) []
  pub low : l.floor ≤ l.d * slot_most
  pub done : (e : ℕ) (job : Job) → e < l.d → Placed (jobs_of l.hall) e job → Begun job (tables_in l.lines e) (rows_at l.rows e)

abbrev pub invariant-loop-d : goal.invariant-loop-d
invariant-loop-d l = Filling l
