-- Where one line's rows are written, what is not written of them stays, of every line (`written`).
use Prim.Native.Nat.{ℕ, ◌<◌}
use mathlib.Core.Path.{◌≡◌, ap, ◌∙◌}
use lib.ListN.{length, set}
use lib.Seq.{get_or-set_other}
use Rattle.hall_lines.specs.declared.LineRows.{LineRows}
use Rattle.hall_state.specs.Courses.{Arrays, rows_at, no_rows}
use Rattle.hall_state.proofs.Courses.{at_each}
use Rattle.hall_moves.proofs.Found.{at_same}

-- what f sees of a line's rows, where the rows o that are written for line d show it what they did
pub written : {X : Type 0} (f : LineRows → X) (a : Arrays) (d : ℕ) (o : LineRows) → length a ≡ 4 → d < 4 → f o ≡ f (rows_at a d) → (e : ℕ) → f (rows_at (set a d o) e) ≡ f (rows_at a e)
written f a d o size less same = at_each d (ap f (at_same a d o size less) ∙ same) (λ e n. ap f (get_or-set_other a d e o no_rows n))
