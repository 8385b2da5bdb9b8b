-- `each_row`: a row that is read is the first of those that are left.
use mathlib.Core.List.{[], ◌∷◌}
use Rattle.std.proofs.Common.{of_calls}
use Rattle.table_text.proofs.Rows.{walks_on, walks_out, walks_end}
use Rattle.table_text.proofs.each_row.Goals as goal

pub loop-at-preserved-then-at-next : goal.loop-at-preserved-then-at-next
loop-at-preserved-then-at-next g c = let l = c.loop-at in
    (search (of_calls), λ ends last h. l.invariant.1 (c.row-next.result ∷ ends) last (walks_on (goal.F-step g) _ _ _ _ _ ends last c.loop-at-test.true c.if-at-next.true c.row-next.ensures h))

pub loop-at-preserved : goal.loop-at-preserved
loop-at-preserved g c = let l = c.loop-at in
    (search (of_calls), λ ends last h. l.invariant.1 (c.row-next.result ∷ ends) last (walks_out (goal.F-step g) _ _ _ _ _ ends last c.loop-at-test.true c.if-at-next.false c.row-next.ensures h))

pub returns : goal.returns
returns g c = let l = c.loop-at in
    let all = l.invariant.1 [] l.row (walks_end (goal.F-step g) _ _ _ c.loop-at-test.false) in
    (all.0, l.row, all.1)
