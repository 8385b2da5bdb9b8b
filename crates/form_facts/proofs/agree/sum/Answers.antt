-- `sum`: the library's sum of the numbers, in the definition's words.
use Rattle.std.proofs.Common.{rules, ℕ, ◌∙◌}
use Rattle.std.proofs.lemmas.Iterator.{YieldsList-from_slice, YieldsList-from_map}
use Rattle.std.proofs.lemmas.Iterator.Consumers.{sum_by_from_yields_List}
use Rattle.form_facts.proofs.Facts.{sum_is}
use Rattle.form_facts.proofs.agree.sum.Goals as goal

pub returns : goal.returns
returns c = let s = c.args.values.now in
    sum_by_from_yields_List (λ (n : ℕ). n) s c.map.result c.sum.result c.sum.ensures.ran (YieldsList-from_map _ (λ (n : ℕ). n) (YieldsList-from_slice s cc) c.map.ensures.closure (λ x r q k. search rules))
    ∙ sum_is s
