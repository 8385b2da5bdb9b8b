-- A line's first level: what the hall's walk begins with.
use Rattle.std.specs.Prelude.{ℕ, ◌≡◌, []}
use Rattle.branch.specs.declared.Bound.{Bound}
use Rattle.branch.specs.declared.Bound.TheVariants.{Sum}
use Rattle.held_rows.specs.Held.{HeldSheet, held_bound}
use Rattle.hall_nodes.specs.Lines.{Given}
use Rattle.hall_lines.specs.declared.LineTables.{LineTables}
use Rattle.hall_lines.specs.declared.LineRows.{LineRows}
use Rattle.hall_lines.specs.Lines.{open_slot}

-- what is answered is the line's floor, and where there is one the line is given at its first level
pub record LineBegun (sheet : HeldSheet) (tb : LineTables) (o : LineRows) (r : Bound) : Type 0 where
  pub floor : r ≡ held_bound sheet []
  pub given : (f : ℕ) → r ≡ Sum f → Given (open_slot sheet [] tb o 0 0)
