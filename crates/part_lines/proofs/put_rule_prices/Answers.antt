-- `put_rule_prices`: each part that is changed has the prices of its rule.
use Rattle.std.proofs.Common.{rules}
use Rattle.part_lines.proofs.Prices.{tabled}
use Rattle.part_lines.proofs.put_rule_prices.Goals as goal

pub returns : goal.returns
returns c = tabled _ (λ s p r said. search rules) c.each_part.ensures
