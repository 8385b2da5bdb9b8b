-- `put_prices`: the rule's lines where there is a rule, else those of each price.
use mathlib.Core.Path.{sym, subst}
use Rattle.line_writing.proofs.Putting.{same, room_same}
use Rattle.part_writing.specs.Views.{PricesMarked}
use Rattle.part_writing.proofs.Pieces.{said_ruled, said_listed}
use Rattle.part_writing.proofs.put_prices.Goals as goal

pub put_rule-requires : goal.put_rule-requires
put_rule-requires c = room_same c.requires.room (said_ruled _ _ c.in-ByRule.is)

pub returns-in-ByRule : goal.returns-in-ByRule
returns-in-ByRule c = same c.put_rule.ensures (sym (said_ruled _ _ c.in-ByRule.is))

pub put_quotes-requires-clause-marked : goal.put_quotes-requires-clause-marked
unfolding PricesMarked
put_quotes-requires-clause-marked c = subst PricesMarked c.in-Listed.is c.requires.marked

pub put_quotes-requires-clause-highs_in_bounds : goal.put_quotes-requires-clause-highs_in_bounds
put_quotes-requires-clause-highs_in_bounds c = room_same c.requires.room (said_listed _ _ c.in-Listed.is)

pub returns-in-Listed : goal.returns-in-Listed
returns-in-Listed c = same c.put_quotes.ensures (sym (said_listed _ _ c.in-Listed.is))
