-- `changes_of` has a row for each part. The invariant: the first q rows are right.
use mathlib.Core.Path.{refl, ◌∙◌}
use native.Mathlib.Omega.{arith}
use lib.ListN.{length-set}
use lib.Seq.{length-take-le}
use Rattle.search.proofs.Stops.{row_more, rows_front}
use Rattle.search.proofs.plan.changes_of.Goals as goal

pub loop-q-init : goal.loop-q-init
loop-q-init g c = (refl, length-take-le c.args.m _ c.requires.few, λ f said k h. absurd (omega (arith, h)))

pub loop-q-preserved : goal.loop-q-preserved
loop-q-preserved g c = let l = c.loop-q in (
  c.at.auto.arg3 ∙ l.invariant.0,
  length-set l.row-items l.q _ ∙ l.invariant.1,
  λ f said. row_more f l.row-items l.q c.at.result (omega (arith, c.loop-q-test.true, l.invariant.1)) (said l.q _ _ _ (omega (arith, c.loop-q-test.true, l.invariant.1)) c.at.ensures) (l.invariant.2 f said),
)

pub returns : goal.returns
returns g c f said = let l = c.loop-q in
    rows_front f l.row-items c.args.m c.requires.few l.invariant.1 (λ k h. l.invariant.2 f said k (omega (arith, h, c.loop-q-test.false, l.invariant.1)))
