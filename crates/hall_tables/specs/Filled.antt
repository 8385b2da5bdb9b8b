-- Lines whose tables are filled from their jobs, and whose first levels are written.
use Rattle.std.specs.Prelude.{ℕ, ◌≡◌, List, [], get_or}
use Rattle.branch.specs.declared.Bound.{Bound}
use Rattle.branch.specs.declared.Bound.TheVariants.{Sum}
use Rattle.model.specs.Model.{Job}
use Rattle.held_rows.specs.Held.{HeldSheet, SheetOf}
use Rattle.hall_model.specs.Hall.{Hall, Placed}
use Rattle.hall_model.specs.LowerBound.{hall_bound}
use Rattle.hall_lines.specs.declared.LineTables.{LineTables}
use Rattle.hall_lines.specs.declared.LineRows.{LineRows}
use Rattle.hall_roots.specs.Root.{LineBegun}
use Rattle.hall_state.specs.Courses.{Arrays, rows_at}

-- a line's first level over tables of its job: what is answered is its floor
pub record LineFilled (job : Job) (tb : LineTables) (o : LineRows) (r : Bound) : Type 0 where
  pub sheet : HeldSheet
  pub holds : SheetOf job sheet
  pub begun : LineBegun sheet tb o r

-- the line has a plan
abbrev pub Begun : Job → LineTables → LineRows → Type 0
Begun job tb o = (b : ℕ) × LineFilled job tb o (Sum b)

-- one line's tables
abbrev pub tables_in : List LineTables → ℕ → LineTables
tables_in lines d = get_or lines d (record { t = []; u = [] })

-- all lines' first levels: what is answered is the hall's floor, and where there is one each line has a plan
pub record LinesFilled (hall : Hall) (lines : List LineTables) (a : Arrays) (r : Bound) : Type 0 where
  pub floor : r ≡ hall_bound hall []
  pub each : (f : ℕ) → r ≡ Sum f → (d : ℕ) (job : Job) → Placed hall.jobs d job → Begun job (tables_in lines d) (rows_at a d)
