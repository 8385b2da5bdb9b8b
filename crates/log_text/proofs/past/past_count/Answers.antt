-- `past::past_count`: the search for the first opening that is after the step, in the definition's words.
use Rattle.std.proofs.Common.{rules, tests, arith, ◌≤◌, ◌≡◌, length, not, ltb, take, ap, ◌∙◌}
use Rattle.std.specs.List.{position_or_len}
use Rattle.std.specs.Option.{unwrap_or}
use Rattle.std.proofs.lemmas.Iterator.{YieldsList-from_slice}
use Rattle.std.proofs.lemmas.Iterator.Search.{position_from_yields_List}
use Rattle.std.proofs.lemmas.List.Sums.{prefix_len-le-length}
use lib.ListN.{length-take}
use Rattle.jobs.specs.declared.Opening.{Opening}
use Rattle.log_text.proofs.Counts.{before_first, first_or_all}
use Rattle.log_text.proofs.past.past_count.Goals as goal

pub returns : goal.returns
returns c = let job = c.args.job.now in
    let step = c.args.step in
    let os = take job.opening_count job.openings in
    let later = λ (o : Opening). ltb step o.step in
    let found = position_from_yields_List later _ _ c.position.result c.position.ensures.ran (YieldsList-from_slice os cc) (λ x b q k. search (rules, tests)) in
    let few : position_or_len later os ≤ length os = prefix_len-le-length (λ (o : Opening). not (later o)) os in
    let first : c.unwrap_or.result ≡ position_or_len later os = c.unwrap_or.ensures ∙ ap (λ r. unwrap_or r (length os)) found ∙ first_or_all _ _ few in
    (first ∙ before_first step os, omega (arith, first, few, length-take job.opening_count job.openings))
