use Rattle.std.proofs.Common.{◌≡◌, ◌-◌, ◌*◌, take}
use Rattle.price_rules.specs.Rule.{rule_prices_lem}
use Rattle.price_rules.proofs.put_prices.Given as goal

abbrev pub invariant-loop-price : goal.invariant-loop-price
invariant-loop-price l = record {
  left : l.left ≡ l.initial.left - l.price-index * l.rule.drop;
  put : take l.price-index l.prices ≡ rule_prices_lem (record { base = l.initial.left; drop = l.rule.drop; least = l.rule.least }) l.price-index;
}
