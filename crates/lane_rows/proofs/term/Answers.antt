-- `term` is a number of the tables.
use Prim.Native.Nat.{ℕ, ◌+◌}
use mathlib.Core.Path.{ap, ◌∙◌}
use native.Mathlib.Omega.{arith}
use lib.ListN.{get_or}
use Rattle.lane_rows.specs.Layout.{mark_count, term_base}
use Rattle.lane_rows.proofs.Rising.{row_inside}
use Rattle.lane_rows.proofs.term.Goals as goal

pub bounds-t-row : goal.bounds-t-row
bounds-t-row c = omega (arith, row_inside c.args.j c.args.i mark_count c.requires.0 (omega (arith, c.requires.1)), c.row_of-row.ensures.rows)

pub returns : goal.returns
returns c = let a = c.args in c.from.ensures ∙ ap (λ (x : ℕ). get_or a.t.now (term_base + (x + a.i)) 0) c.row_of-row.ensures.rows
