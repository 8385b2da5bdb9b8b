-- `count_to`: the search for the first step that is after the step, in the definition's words.
use Rattle.std.proofs.Common.{rules, tests, arith, ◌≤◌, ◌≡◌, ℕ, length, not, ltb, ap, ◌∙◌}
use Rattle.std.specs.List.{position_or_len}
use Rattle.std.specs.Option.{unwrap_or}
use Rattle.std.proofs.lemmas.Iterator.{YieldsList-from_slice}
use Rattle.std.proofs.lemmas.Iterator.Search.{position_from_yields_List}
use Rattle.std.proofs.lemmas.List.Sums.{prefix_len-le-length}
use Rattle.log_text.proofs.Counts.{first_after, first_or_all}
use Rattle.later_steps.proofs.count_to.Goals as goal

pub returns : goal.returns
returns c = let ss = c.args.steps.now in
    let later = λ (s : ℕ). ltb c.args.step s in
    let found = position_from_yields_List later _ _ c.position.result c.position.ensures.ran (YieldsList-from_slice ss cc) (λ x b q k. search (rules, tests)) in
    let few : position_or_len later ss ≤ length ss = prefix_len-le-length (λ (s : ℕ). not (later s)) ss in
    let first : c.unwrap_or.result ≡ position_or_len later ss = c.unwrap_or.ensures ∙ ap (λ r. unwrap_or r (length ss)) found ∙ first_or_all _ _ few in
    (first ∙ first_after c.args.step ss, omega (arith, first, few))
