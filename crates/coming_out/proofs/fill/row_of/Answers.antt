-- `row_of`: the first i places are what the closure says of them.
use mathlib.Core.Path.{◌∙◌}
use native.Mathlib.Omega.{arith}
use lib.ListN.{length-set}
use Rattle.coming_out.proofs.Rows.{row_front, front_more}
use Rattle.coming_out.proofs.fill.row_of.Goals as goal

pub loop-i-init : goal.loop-i-init
loop-i-init g c = (omega (arith, c.requires.few), λ f said k h. absurd (omega (arith, h)))

pub loop-i-preserved : goal.loop-i-preserved
loop-i-preserved g c = let l = c.loop-i in
    (length-set l.place-items l.i _ ∙ l.invariant.0, λ f said. front_more c.args.d f l.i l.place-items _ (omega (arith, c.loop-i-test.true)) (said l.i _ (omega (arith, c.loop-i-test.true, l.invariant.0)) c.value.ensures) (l.invariant.1 f said))

pub returns : goal.returns
returns g c f said = let l = c.loop-i in
    row_front c.args.d f c.args.m l.place-items c.requires.few l.invariant.0 (λ k h. l.invariant.1 f said k (omega (arith, h, c.loop-i-test.false, l.invariant.0)))
