-- What is known of an accepted price.
use Rattle.std.specs.Prelude.{◌≤◌}
use Rattle.jobs.specs.Valid.{ValidPrice}
use Rattle.quotes.specs.Grammar.{Quote, low_end, high_end}

-- both ends are prices, and the low one is not above the high one
pub record ValidQuote (q : Quote) : Type 0 where
  pub low : ValidPrice (low_end q)
  pub high : ValidPrice (high_end q)
  pub ordered : low_end q ≤ high_end q
