-- The faults of a part's lines are 2, 3, 5, 12 and 13, each on a line that is there or is the next (`part_numbers`). By the grammar's forms.
use Prim.Native.Nat.{ℕ}
use Rattle.lines.proofs.Numbered.{Numbers, row_numbers, checked_numbers, bind_numbers, return_numbers}
use Rattle.covers.proofs.Numbered.{cover_numbers}
use Rattle.price_rules.proofs.Numbered.{prices_numbers}
use Rattle.part_lines.specs.Grammar.{after_left, part}

module _ (P : ℕ → Type 0) (two : P 2) (three : P 3) (five : P 5) (twelve : P 12) (thirteen : P 13) where
  pub part_numbers : (m n k : ℕ) → Numbers P (part m n k)
  unfolding part after_left
  part_numbers m n k =
      bind_numbers P _ _ (row_numbers P two three _ 1 1000)
      (λ l. bind_numbers P _ _ (checked_numbers P 5 five _ _ (row_numbers P two three _ 0 1000))
      (λ r. bind_numbers P _ _ (cover_numbers P two three twelve m k)
      (λ c. bind_numbers P _ _ (prices_numbers P two three thirteen n) (λ ps. return_numbers P _))))
