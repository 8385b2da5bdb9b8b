-- `rule_prices`: the first n entries are the rule's prices, and the rest is as it was, 0.
use Rattle.price_rules.specs.Views.{rule_of}
use Rattle.price_rules.proofs.Arrays.{prices_put}
use Rattle.price_rules.proofs.rule_prices.Goals as goal

pub returns : goal.returns
returns c = prices_put (rule_of c.args.rule) c.args.n 64 c.put_prices.new.prices c.requires c.put_prices.ensures
