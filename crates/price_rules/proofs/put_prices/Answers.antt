-- `put_prices`: the first prices are written, and as many drops are taken off the base.
use Rattle.std.proofs.Common.{arith, ◌≡◌, length, refl, sym, ap, ◌∙◌}
use Rattle.std.proofs.lemmas.List.{take_all}
use Rattle.base.specs.Joined.{joined}
use Rattle.base.proofs.Arrays.{take_more}
use Rattle.price_rules.specs.Views.{rule_of}
use Rattle.price_rules.specs.Rule.{rule_prices_lem}
use Rattle.price_rules.proofs.Prices.{base_next, rule_more}
use Rattle.price_rules.proofs.put_prices.Goals as goal

pub loop-price-init : goal.loop-price-init
unfolding joined
loop-price-init c = record { left = omega arith; put = refl }

pub loop-price-preserved : goal.loop-price-preserved
loop-price-preserved c = let l = c.loop-price in
    let r = c.args.rule in
    let next = base_next r.base r.drop l.price-index in
    record {
      left = omega (arith, next);
      put = take_more l.price-index l.prices _ (omega arith) ∙ rule_more (rule_of r) l.price-index _ _ l.invariant.put (omega arith);
    }

pub returns : goal.returns
returns c = let l = c.loop-price in
    let all : l.price-index ≡ length c.args.prices.now = omega arith in
    sym (take_all l.price-index l.prices (omega arith)) ∙ l.invariant.put ∙ ap (rule_prices_lem (rule_of c.args.rule)) all
