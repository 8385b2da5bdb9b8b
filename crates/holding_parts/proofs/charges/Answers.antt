-- `charges`: place by place, the removal where the part there holds nobody.
use Prim.Native.Nat.{ℕ}
use mathlib.Core.Path.{◌∙◌}
use mathlib.Core.Bool.{false, cond}
use Rattle.std.proofs.Common.{rules}
use lib.ListN.{get_or}
use Rattle.model.specs.Limits.{most_parts}
use Rattle.model.proofs.Lists.{table_at}
use Rattle.holding_parts.proofs.Held.{charge_at}
use Rattle.holding_parts.proofs.charges.Goals as goal

pub returns : goal.returns
returns c job removals holds q h =
    let a = c.args in
    let f : ℕ → ℕ = λ x. cond (get_or a.marks x false) 0 (get_or a.removals x 0) in
    (c.row_of.ensures f (λ x v l said. search rules)).at q ∙ table_at f most_parts q 0 h ∙ charge_at job a.removals a.marks removals holds q
