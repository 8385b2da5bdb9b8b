-- `one_paired`: the search over the low ends, in the definition's words.
use Rattle.std.proofs.Common.{rules, tests, ◌∙◌}
use Rattle.std.specs.Prelude.{is_some}
use Rattle.std.proofs.lemmas.Iterator.{YieldsList-from_slice}
use Rattle.std.proofs.lemmas.Iterator.Search.{any_from_yields_List}
use Rattle.low_ends.proofs.Prices.{any_one}
use Rattle.low_ends.proofs.one_paired.Goals as goal

pub returns : goal.returns
returns c = let lows = c.args.lows.now in
    any_from_yields_List is_some _ _ c.any.result c.any.ensures.ran (YieldsList-from_slice lows cc) (λ x b q k. search (rules, tests)) ∙ any_one lows
