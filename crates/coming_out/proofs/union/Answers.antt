-- `union`: place by place, what the closure says.
use mathlib.Core.Bool.{false, ◌||◌}
use lib.ListN.{get_or}
use Rattle.std.proofs.Common.{rules}
use Rattle.coming_out.specs.Rows.{reached}
use Rattle.coming_out.proofs.union.Goals as goal

pub returns : goal.returns
returns c = let a = c.args in
    c.row_of.ensures (λ j. get_or a.own j false || reached a.m a.matrix.now a.set j) (λ j x h said. search rules)
