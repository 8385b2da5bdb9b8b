-- `inner_removals`: place by place, the removal of the holder there.
use Prim.Native.Nat.{ℕ}
use mathlib.Core.Path.{sym, subst, ◌∙◌}
use mathlib.Core.List.{List, map}
use native.Mathlib.Omega.{arith}
use Rattle.std.proofs.Common.{rules}
use lib.ListN.{get_or, length-map}
use Rattle.model.specs.Model.{removal_of_lem}
use Rattle.model.proofs.Lists.{table_same}
use Rattle.coming_out.specs.Rows.{Row}
use Rattle.holding_parts.proofs.Held.{within_of, held_table}
use Rattle.holding_parts.proofs.inner_removals.Goals as goal

pub returns : goal.returns
returns c job removals is =
    let a = c.args in
    let f : ℕ → ℕ = λ b. get_or a.removals (get_or a.holding.places b 0) 0 in
    subst (λ (xs : List ℕ). Row 0 xs c.row_of.result)
    (table_same _ _ a.holding.count (λ b g. removals.at (get_or a.holding.places b 0))
    ∙ sym (held_table job a.holding (within_of a.holding (omega (arith, c.well_formed))) is 0 (map removal_of_lem job.parts) (length-map job.parts removal_of_lem)))
    (c.row_of.ensures f (λ b x l said. search rules))
