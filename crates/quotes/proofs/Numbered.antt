-- The faults of a price's lines are 2, 3 and 13, each on a line that is there or is the next (`quote_numbers`). By the grammar's forms.
use Rattle.std.specs.Prelude.{Option, Some, None}
use Prim.Native.Nat.{ℕ}
use Rattle.lines.proofs.Numbered.{Numbers, row_numbers, optional_numbers, checked_numbers, bind_numbers, return_numbers}
use Rattle.quotes.specs.Grammar.{single, pair, unless_low, quote}

module _ (P : ℕ → Type 0) (two : P 2) (three : P 3) (thirteen : P 13) where
  unless_numbers : (o : Option ℕ) → Numbers P (unless_low o)
  unfolding unless_low
  unless_numbers None = bind_numbers P _ _ (row_numbers P two three _ 1 1000000) (λ p. return_numbers P (single p))
  unless_numbers (Some l) = bind_numbers P _ _ (checked_numbers P 13 thirteen _ _ (row_numbers P two three _ 1 1000000)) (λ h. return_numbers P (pair l h))

  pub quote_numbers : Numbers P quote
  unfolding quote
  quote_numbers = bind_numbers P _ _ (optional_numbers P two three _ 1 1000000) unless_numbers
