-- `digit_count` meets its contract. The invariant: n is below the power k, so k digits are enough.
use Prim.Native.Nat.{ℕ, suc, ◌≤◌, ◌<◌, ◌-◌, ◌^◌}
use mathlib.Core.Path.{◌≡◌, refl, sym, ap, ◌∙◌, subst}
use mathlib.Core.List.{[], ◌∷◌}
use native.Mathlib.Omega.{arith}
use native.Mathlib.Numerals.{add-one}
use Rattle.lines.specs.Text.{decimal_in}
use Rattle.lines.proofs.Writing.{digits_more}
use Rattle.line_writing.proofs.Powers.{one_padded, decimal_padded}
use Rattle.line_writing.specs.Undivided.{Undivided}
use Rattle.line_writing.specs.contracts.digits.power_of_ten.Key.{symbol as #power-of-ten}
use Rattle.line_writing.proofs.digits.digit_count.Code as code
use Rattle.line_writing.proofs.digits.digit_count.Goals as goal

-- E3. it divides nowhere, and neither does what it calls
undivided : Undivided (#power-of-ten ∷ []) code.function
undivided = record { divides_nowhere = tt; calls = tt }

pub loop-k-init : goal.loop-k-init
loop-k-init c = (omega arith, c.requires, refl)

pub returns-then-power_of_ten-n : goal.returns-then-power_of_ten-n
returns-then-power_of_ten-n c = let l = c.loop-k in
    let n = c.args.n in
    let k : l.k ≡ suc (l.k - 1) = omega arith in
    let lo : 10 ^ (l.k - 1) ≤ n = omega (arith, c.power_of_ten.ensures, c.if-power_of_ten-n.true) in
    let hi : n < 10 ^ suc (l.k - 1) = subst (λ (m : ℕ). n < 10 ^ m) k l.invariant.1 in
    (omega arith, rw add-one hi, rw add-one (l.invariant.2 ∙ ap (λ (m : ℕ). decimal_in m n) k ∙ decimal_padded (l.k - 1) n lo hi))

pub loop-k-preserved : goal.loop-k-preserved
loop-k-preserved c = let l = c.loop-k in
    let n = c.args.n in
    let hi : n < 10 ^ (l.k - 1) = omega (arith, c.power_of_ten.ensures, c.if-power_of_ten-n.false) in
    let j : l.k - 1 ≡ suc (l.k - 2) = omega arith in
    let k : l.k ≡ suc (suc (l.k - 2)) = omega arith in
    let more : decimal_in l.k n ≡ decimal_in (l.k - 1) n =
    ap (λ (m : ℕ). decimal_in m n) k ∙ digits_more (l.k - 2) n (subst (λ (m : ℕ). n < 10 ^ m) j hi) ∙ ap (λ (m : ℕ). decimal_in m n) (sym j)
    in (omega arith, hi, l.invariant.2 ∙ more)

pub returns : goal.returns
returns c = let l = c.loop-k in
    let n = c.args.n in
    let last : l.k ≡ 1 = omega arith in
    let below : n < 10 = subst (λ (m : ℕ). n < 10 ^ m) last l.invariant.1 in
    (omega arith, below, l.invariant.2 ∙ ap (λ (m : ℕ). decimal_in m n) last ∙ one_padded n below)
