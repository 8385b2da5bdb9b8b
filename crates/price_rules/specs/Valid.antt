-- What is known of a part's accepted prices.
use Rattle.std.specs.Prelude.{ℕ, ◌≤◌, ◌≡◌, length, Option, Some, None}
use Rattle.model.specs.Limits.{dearest}
use Rattle.base.specs.Each.{All}
use Rattle.quotes.specs.Valid.{ValidQuote}
use Rattle.price_rules.specs.Rule.{Rule}
use Rattle.price_rules.specs.Grammar.{Prices, by_list, by_rule_lem}

-- E8.1. "`base` 1..1000000, `drop` 0..1000000 and `least` 1..1000000"; least may be above base
pub record ValidRule (r : Rule) : Type 0 where
  pub base_low : 1 ≤ r.base
  pub base_high : r.base ≤ dearest
  pub drop : r.drop ≤ dearest
  pub least_low : 1 ≤ r.least
  pub least_high : r.least ≤ dearest

-- where its lines stand
abbrev pub ValidLines : Option Rule → Type 0
ValidLines None = Unit {0}
ValidLines (Some r) = ValidRule r

-- the prices of a part with n openings: one for each, or a rule, which counts none
abbrev pub ValidPrices : ℕ → Prices → Type 0
ValidPrices n (by_list qs) = (length qs ≡ n) × All ValidQuote qs
ValidPrices n (by_rule_lem r) = ValidRule r
