-- What a text reads as: it is one outcome, so two values are one, two faults are one, and no text has both.
use Prim.Native.Nat.{ℕ}
use mathlib.Core.Path.{◌≡◌, sym, ◌∙◌}
use native.Mathlib.Omega.{arith}
use Rattle.lines.specs.Parser.{Outcome, accepted, refused}

module _ {A : Type 0} {x : Outcome A} where
  -- a text that is accepted with two values is accepted with one and the same
  pub one_value : {a b : A} → x ≡ accepted a → x ≡ accepted b → b ≡ a
  one_value {a} {b} e f = let y : accepted b ≡ accepted a = sym f ∙ e in cc

  -- a text that is refused twice is refused with the same number on the same line
  pub one_fault : {n l i j : ℕ} → x ≡ refused n l → x ≡ refused i j → (n ≡ i) × (l ≡ j)
  one_fault {n} {l} {i} {j} e f = let y : ◌≡◌ {A = Outcome A} (refused n l) (refused i j) = sym e ∙ f in (cc, cc)

  -- no text is both accepted with a value and refused with a fault
  pub not_both : {X : Type 0} {a : A} {n l : ℕ} → x ≡ accepted a → x ≡ refused n l → X
  not_both {X} {a} {n} {l} e f =
      let y : accepted a ≡ refused n l = sym e ∙ f in
      let z : ◌≡◌ {A = ℕ} 0 1 = cc in
      absurd (omega arith)
