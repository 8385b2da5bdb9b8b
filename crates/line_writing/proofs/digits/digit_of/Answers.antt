-- `lines::digit_of` meets its contract. The invariant: the digit times the power, and the rest, are n.
use Prim.Native.Nat.{◌+◌, ◌*◌, ◌-◌}
use mathlib.Core.Path.{◌≡◌}
use mathlib.Core.List.{[]}
use native.Mathlib.Omega.{arith}
use native.Mathlib.Numerals.{add-one}
use native.Mathlib.Nat.{suc-mul, zero-mul, lt_of_mul-lt-mul_right}
use Rattle.line_writing.specs.Undivided.{Undivided}
use Rattle.line_writing.proofs.digits.digit_of.Code as code
use Rattle.line_writing.proofs.digits.digit_of.Goals as goal

-- E3. it divides nowhere, and neither does what it calls
undivided : Undivided ([]) code.function
undivided = record { divides_nowhere = tt; calls = tt }

pub loop-rest-init : goal.loop-rest-init
loop-rest-init c = (rw zero-mul (omega arith), omega arith)

pub loop-rest-preserved : goal.loop-rest-preserved
loop-rest-preserved c = let l = c.loop-rest in
    let power = c.args.power in
    let e : c.args.n ≡ (l.digit + 1) * power + (l.rest - power) = rw (add-one, suc-mul) (omega (arith, l.invariant.0)) in
    (e, lt_of_mul-lt-mul_right power (omega (arith, e)))

pub returns : goal.returns
returns c = (c.loop-rest.invariant.0, omega arith, c.loop-rest.invariant.1)
