-- `first_sums` is the sum of the tables' first row, where the term handed over is there.
use mathlib.Core.Path.{sym, ap, ◌∙◌}
use Prim.Native.Nat.{ℕ}
use native.Mathlib.Omega.{arith}
use lib.ListN.{get_or}
use Rattle.branch.specs.declared.Bound.TheVariants.{Sum}
use Rattle.lane_rows.specs.Layout.{lanes_in}
use Rattle.lane_rows.specs.Rows.{sum_lanes}
use Rattle.lane_rows.proofs.Lanes.{where_some, where_none}
use Rattle.lane_rows.proofs.first_sums.Goals as goal

pub total-requires : goal.total-requires
total-requires c = (omega (arith, c.requires.0), omega arith, c.requires.1)

pub returns-then-due-from : goal.returns-then-due-from
returns-then-due-from c = ap Sum c.total.ensures ∙ sym (where_some c.args.due (sum_lanes (lanes_in c.args.t.now) (λ (q : ℕ). get_or c.args.t.now q 0)) (omega arith))

pub returns : goal.returns
returns c = sym (where_none c.args.due (sum_lanes (lanes_in c.args.t.now) (λ (q : ℕ). get_or c.args.t.now q 0)) (omega arith))
