-- The lines that say a part's prices.
use Rattle.std.specs.Prelude.{ℕ, List, ◌++◌}
use Rattle.lines.specs.Text.{line_of, texts}
use Rattle.quotes.specs.Rendering.{quote_text}
use Rattle.price_rules.specs.Rule.{Rule}
use Rattle.price_rules.specs.Grammar.{Prices, by_list, by_rule_lem}

-- E8.1. a rule's three lines
unfoldable pub rule_text : Rule → List ℕ
rule_text r = line_of "base=" r.base ++ line_of "drop=" r.drop ++ line_of "least=" r.least

-- those of a part's prices: those of each, or the rule's
abbrev pub prices_text : Prices → List ℕ
prices_text (by_list qs) = texts quote_text qs
prices_text (by_rule_lem r) = rule_text r
