-- The faults of lines of removal are 2, 3 and 12, each on a line that is there or is the next (`cover_numbers`). By the grammar's forms.
use Prim.Native.Nat.{ℕ}
use Rattle.lines.proofs.Numbered.{Numbers, row_numbers, optional_numbers, present_numbers, checked_numbers, bind_numbers, return_numbers, chain_numbers}
use Rattle.covers.specs.Grammar.{holder, holders, inside, cover}

module _ (P : ℕ → Type 0) (two : P 2) (three : P 3) (twelve : P 12) where
  holder_numbers : (m k before : ℕ) → Numbers P (holder m k before)
  unfolding holder
  holder_numbers m k before = checked_numbers P 12 twelve _ _ (checked_numbers P 12 twelve _ _ (row_numbers P two three _ 1 16))

  pub cover_numbers : (m k : ℕ) → Numbers P (cover m k)
  unfolding cover inside holders
  cover_numbers m k =
      bind_numbers P _ _ (optional_numbers P two three _ 0 1000000)
      (λ r. present_numbers P (inside m k) (λ v. bind_numbers P _ _ (row_numbers P two three _ 0 15)
      (λ n. bind_numbers P _ _ (chain_numbers P (holder m k) _ (holder_numbers m k) n 0) (λ hs. return_numbers P _))) r)
