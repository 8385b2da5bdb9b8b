-- The code's structs in the terms of the grammar.
use Rattle.std.specs.Prelude.{Option, Some, None}
use Rattle.covers.specs.Grammar as covers
use Rattle.price_rules.specs.Grammar as prices
use Rattle.price_rules.specs.Views.{rule_of}
use Rattle.part_lines.specs.Grammar.{PartText}
use Rattle.form_facts.specs.Views.{quotes_said, QuotesMarked}
use Rattle.part_writing.specs.declared.cover.Cover.{Cover}
use Rattle.part_writing.specs.declared.Part.{Part}
use Rattle.part_writing.specs.declared.Prices.{Prices}
use Rattle.part_writing.specs.declared.Prices.TheVariants.{ByRule, Listed}

-- the lines of removal, where they stand
unfoldable pub cover_said : Option Cover → Option covers.Cover
cover_said None = None
cover_said (Some c) = Some (record { removal = c.removal; holders = c.holders.now })

-- the prices, by a rule or in a list
unfoldable pub prices_said : Prices → prices.Prices
prices_said (ByRule r) = prices.by_rule_lem (rule_of r)
prices_said (Listed q) = prices.by_list (quotes_said q)

-- those that are listed are marked
unfoldable pub PricesMarked : Prices → Type 0
PricesMarked (ByRule r) = Unit {0}
PricesMarked (Listed q) = QuotesMarked q

-- the lines of a part
abbrev pub part_said : Part → PartText
part_said p = record { life = p.life; left = p.left; cover = cover_said p.cover; prices = prices_said p.prices }
