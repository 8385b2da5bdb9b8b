-- `number`: the digits so far make v, which those that are left carry on.
use mathlib.Core.Path.{refl, sym, ap, ◌∙◌}
use native.Mathlib.Omega.{arith}
use lib.ListN.{length, drop, length-drop}
use Rattle.lines.proofs.Reading.{Digit, digit_at, drop_step, pow_step, pow_nine, number_next, number_end}
use Rattle.lines.proofs.read.number.Goals as goal
use Rattle.lines.proofs.read.number.Goals.{In-loop-d}

-- a digit stands at the index
here : (c : In-loop-d) → Digit c.args.ds.now c.loop-d.d-index
here c = digit_at _ _ (omega (arith, ap length c.loop-d.invariant.0, length-drop c.loop-d.d-index c.args.ds.now))

pub loop-d-init : goal.loop-d-init
loop-d-init c = (c.requires.1, omega arith, refl)

pub overflow_mul-v : goal.overflow_mul-v
overflow_mul-v c = omega (arith, pow_nine c.loop-d.d-index (omega arith))

pub overflow_sub-d : goal.overflow_sub-d
overflow_sub-d c = omega (arith, here (goal.at.overflow_sub-d c).In-loop-d)

pub overflow_add-v : goal.overflow_add-v
overflow_add-v c = omega (arith, here (goal.at.overflow_add-v c).In-loop-d, pow_nine c.loop-d.d-index (omega arith))

pub loop-d-preserved : goal.loop-d-preserved
loop-d-preserved c = let d = here (goal.at.loop-d-preserved c).In-loop-d in
    let i = c.loop-d.d-index in
    let e = drop_step c.args.ds.now i c.loop-d-test.true in
    (ap (drop 1) (sym d.next ∙ c.loop-d.invariant.0 ∙ e), omega (arith, d, pow_step i), rw c.from.ensures (c.loop-d.invariant.2 ∙ number_next _ _ _ e))

pub returns : goal.returns
returns c = number_end _ _ (omega (arith, length-drop c.loop-d.d-index c.args.ds.now)) ∙ sym c.loop-d.invariant.2
