-- A part's prices: quoted one by one, or by a rule. E8.1. "In place of its `price` lines a part may have `base` 1..1000000, `drop` 0..1000000 and `least` 1..1000000."
use Rattle.std.specs.Prelude.{ℕ, Bool, false, List, map, Option, Some, None}
use Rattle.lines.specs.Parser.{Parser, ◌>>=◌, return, row, optional, if_present, times}
use Rattle.model.specs.Limits.{dearest}
use Rattle.quotes.specs.Grammar.{Quote, single, high_end, low_end, any_pair, quote}
use Rattle.price_rules.specs.Rule.{Rule, rule_prices_lem}

-- what follows the base b
unfoldable pub after_base : ℕ → Parser Rule
after_base b = do
  d ← row "drop=" 0 dearest
  m ← row "least=" 1 dearest
  return (record { base = b; drop = d; least = m })

-- a rule's lines, which may be missing: they are told by the key of the first
unfoldable pub rule : Parser (Option Rule)
rule = do
  b ← optional "base=" 1 dearest
  if_present after_base b

-- a part's prices: a list of them, or a rule in its place
pub data Prices : Type 0 where
  by_list : List Quote → Prices
  by_rule_lem : Rule → Prices

-- a rule in place of the prices, and where there is none a price, single or a pair, for each of n openings
unfoldable pub unless_ruled : ℕ → Option Rule → Parser Prices
unless_ruled n None = do
  qs ← times n quote
  return (by_list qs)
unless_ruled n (Some r) = return (by_rule_lem r)

-- the lines of a part's prices, with n openings
unfoldable pub prices : ℕ → Parser Prices
prices n = do
  r ← rule
  unless_ruled n r

-- the price at each of n openings that they mean: that at the high ends
abbrev pub meant_prices : ℕ → Prices → List ℕ
meant_prices n (by_list qs) = map high_end qs
meant_prices n (by_rule_lem r) = rule_prices_lem r n

-- E11. those at the low ends. "E8's rule gives single prices only"
abbrev pub low_prices_lem : ℕ → Prices → List ℕ
low_prices_lem n (by_list qs) = map low_end qs
low_prices_lem n (by_rule_lem r) = rule_prices_lem r n

-- E11. whether a `low` line stands among their lines
abbrev pub banded_prices : Prices → Bool
banded_prices (by_list qs) = any_pair qs
banded_prices (by_rule_lem r) = false

-- E8.5. "with the lines written out": a price line for each opening in place of a rule
abbrev pub written_out_lem : ℕ → Prices → Prices
written_out_lem n (by_list qs) = by_list qs
written_out_lem n (by_rule_lem r) = by_list (map single (rule_prices_lem r n))
