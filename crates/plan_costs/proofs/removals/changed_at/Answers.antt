-- `changed_at`: place by place, whether the part there is changed.
use mathlib.Core.Bool.{false}
use lib.ListN.{get_or}
use Rattle.std.proofs.Common.{rules}
use Rattle.jobs.specs.Views.{blank_changes}
use Rattle.plan_costs.proofs.removals.changed_at.Goals as goal

pub returns : goal.returns
returns c = let a = c.args in
    c.row_of.ensures (λ i. get_or (get_or a.changes.now i blank_changes).at a.k false) (λ i x h said. search rules)
