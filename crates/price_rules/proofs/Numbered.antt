-- The faults of lines of prices are 2, 3 and 13, each on a line that is there or is the next (`rule_numbers`, `prices_numbers`). By the grammar's forms.
use Rattle.std.specs.Prelude.{Option, Some, None}
use Prim.Native.Nat.{ℕ}
use Rattle.lines.proofs.Numbered.{Numbers, row_numbers, optional_numbers, present_numbers, bind_numbers, return_numbers, times_numbers}
use Rattle.quotes.proofs.Numbered.{quote_numbers}
use Rattle.price_rules.specs.Rule.{Rule}
use Rattle.price_rules.specs.Grammar.{after_base, rule, by_list, by_rule_lem, unless_ruled, prices}

module _ (P : ℕ → Type 0) (two : P 2) (three : P 3) (thirteen : P 13) where
  pub rule_numbers : Numbers P rule
  unfolding rule after_base
  rule_numbers =
      bind_numbers P _ _ (optional_numbers P two three _ 1 1000000)
      (λ b. present_numbers P after_base (λ v. bind_numbers P _ _ (row_numbers P two three _ 0 1000000) (λ d. bind_numbers P _ _ (row_numbers P two three _ 1 1000000) (λ m. return_numbers P _))) b)

  unless_numbers : (n : ℕ) (o : Option Rule) → Numbers P (unless_ruled n o)
  unfolding unless_ruled
  unless_numbers n None = bind_numbers P _ _ (times_numbers P n _ (quote_numbers P two three thirteen)) (λ qs. return_numbers P (by_list qs))
  unless_numbers n (Some r) = return_numbers P (by_rule_lem r)

  pub prices_numbers : (n : ℕ) → Numbers P (prices n)
  unfolding prices
  prices_numbers n = bind_numbers P _ _ rule_numbers (unless_numbers n)
