-- The line of a count, read: the count where it is in range and the lists that it counts agree (`count_in`), else number 3 (`count_out`). By the value of `count_of`.
use Prim.Native.Nat.{ℕ, suc, ◌+◌, ◌^◌, ◌≤◌, ◌<◌}
use mathlib.Core.Path.{◌≡◌, refl, ap, ◌∙◌}
use mathlib.Core.Bool.{Bool, true, false, ◌&&◌, and-eq-true_iff}
use mathlib.Core.List.{List, ◌++◌}
use native.Mathlib.Omega.{arith}
use native.Mathlib.Decide.{dec_lt}
use borrow.Author.Tests.{leb-true, le-leb}
use lib.Dec.{leb}
use Rattle.lines.specs.Text.{line}
use Rattle.lines.specs.Parser.{Parsed, good, fault, row_at}
use Rattle.lines.proofs.ValueLines.{value_in, value_low, value_high}
use Rattle.form_facts.specs.Facts.{count_of}

-- a count in range, of lists that agree, stands on its line as itself
pub count_is : (most : ℕ) (agree : Bool) (n : ℕ) → n ≤ most → agree ≡ true → count_of most agree n ≡ n
count_is most agree n h e = rw (le-leb n most h, e)

module _ (key : List ℕ) (lo most : ℕ) (few : suc most < 10 ^ 10) (agree : Bool) (n : ℕ) (s : List ℕ) (l : ℕ) where
  abbrev read : ℕ → Parsed ℕ
  read v = row_at key lo most (line key v ++ s) l

  pub count_in : lo ≤ n → n ≤ most → agree ≡ true → read (count_of most agree n) ≡ good n s (l + 1)
  count_in low high e = ap read (count_is most agree n high e) ∙ value_in key lo most n (omega arith) s l low high

  pub count_out : (lo ≤ n → n ≤ most → agree ≡ true → ⊥) → read (count_of most agree n) ≡ fault 3 l
  count_out no_good = go (leb n most && agree) refl
    where
      above : Dec (suc most < lo) → read (suc most) ≡ fault 3 l
      above (yes h) = value_low key lo most (suc most) few s l h
      above (no h) = value_high key lo most (suc most) few s l (omega (arith, h)) (omega arith)

      go : (b : Bool) → (leb n most && agree) ≡ b → read (count_of most agree n) ≡ fault 3 l
      go true e =
          let w = (and-eq-true_iff (leb n most) agree).0 e in
          let high : n ≤ most = leb-true n most w.0 in
          let low : Dec (n < lo) → n < lo = (λ d. elim d [ yes h ↦ h | no h ↦ absurd (no_good (omega (arith, h)) high w.1) ]) in
          rw e (value_low key lo most n (omega arith) s l (low (dec_lt n lo)))
      go false e = rw e (above (dec_lt (suc most) lo))
