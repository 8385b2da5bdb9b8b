-- `needs_of`: place by place, whether the holder there comes out with the part.
use Prim.Native.Nat.{ℕ}
use mathlib.Core.Path.{sym, subst, ◌∙◌}
use mathlib.Core.Bool.{Bool, false}
use mathlib.Core.List.{List}
use native.Mathlib.Omega.{arith}
use Rattle.std.proofs.Common.{rules}
use lib.ListN.{get_or}
use Rattle.model.specs.Model.{comes_out}
use Rattle.model.proofs.Lists.{table_same}
use Rattle.model.proofs.Closure.{out_length}
use Rattle.coming_out.specs.Rows.{place, Row}
use Rattle.holding_parts.proofs.Held.{within_of, held_table}
use Rattle.holding_parts.proofs.needs_of.Goals as goal

pub returns : goal.returns
returns c m job h count rows is =
    let a = c.args in
    let f : ℕ → Bool = λ b. get_or a.outs.now (place a.q (get_or a.holding.places b 0)) false in
    subst (λ (xs : List Bool). Row false xs c.row_of.result)
    (table_same _ _ a.holding.count (λ b g. rows.at a.q (get_or a.holding.places b 0) h (a.holding.inside b g))
    ∙ sym (held_table job a.holding (within_of a.holding (omega (arith, c.well_formed))) is false (comes_out job a.q) (out_length job a.q)))
    (c.row_of.ensures f (λ b x l said. search rules))
