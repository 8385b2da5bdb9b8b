-- `read_value`: by the tests of the digits one after the other; what passes them all is a value.
use native.Mathlib.Omega.{arith}
use Prim.Native.Nat.{ℕ}
use mathlib.Core.Path.{◌≡◌, sym, ap, ◌∙◌}
use mathlib.Core.List.{List}
use mathlib.Core.Logic.{inl, inr}
use lib.ListN.{length, take, get_or-eq_default}
use Rattle.lines.specs.Line.{digits, number_from}
use Rattle.lines.proofs.Reading.{none_bad, long_bad, mark_bad, zero_bad, value_good, digits_first, digits_own}
use Rattle.lines.proofs.read.read_value.Goals as goal

pub returns-then-n-lt1 : goal.returns-then-n-lt1
returns-then-n-lt1 c = none_bad _ _ c.digit_run-n.ensures c.if-n-lt1.true

pub returns-then-n-gt10 : goal.returns-then-n-gt10
returns-then-n-gt10 c = long_bad _ _ c.digit_run-n.ensures c.if-n-gt10.true

pub returns-then-s-n : goal.returns-then-s-n
returns-then-s-n c = mark_bad _ _ c.digit_run-n.ensures (λ e. omega (arith, get_or-eq_default c.args.s.now 0 c.if-s-n.true))

pub returns-then-s-n-ne10 : goal.returns-then-s-n-ne10
returns-then-s-n-ne10 c = mark_bad _ _ c.digit_run-n.ensures c.if-s-n-ne10.true

pub returns-then-n-gt1 : goal.returns-then-n-gt1
returns-then-n-gt1 c = zero_bad _ _ c.digit_run-n.ensures c.if-n-gt1.true c.if-zero.true

-- the bytes that are handed on are the digits
first : (s : List ℕ) (n : ℕ) → n ≡ length (digits s) → take n s ≡ digits s
first s n e = ap (λ (m : ℕ). take m s) e ∙ digits_first s

pub number-requires : goal.number-requires
number-requires c = let e = first _ _ c.digit_run-n.ensures in
    (omega (arith, ap length e, c.digit_run-n.ensures), ap digits e ∙ digits_own _ ∙ sym e)

pub returns : goal.returns
returns c = let e = first _ _ c.digit_run-n.ensures in
    let v = c.number.ensures ∙ ap (number_from 0) e in
    rw v (value_good _ _ c.digit_run-n.ensures (omega arith) (omega arith) c.if-s-n-ne10.false (elim c.else-zero.either [ inl h ↦ λ l z. omega (arith, h.1) | inr h ↦ λ l z. h z ]))
