-- `line_length`: the search for a byte 10, in the definition's words.
use Rattle.std.proofs.Common.{rules, tests, ℕ, length, not, eqb, ap, ◌∙◌}
use Rattle.std.specs.Option.{unwrap_or}
use Rattle.std.proofs.lemmas.Iterator.{YieldsList-from_slice}
use Rattle.std.proofs.lemmas.Iterator.Search.{position_from_yields_List}
use Rattle.std.proofs.lemmas.List.Sums.{prefix_len-le-length}
use Rattle.lines.proofs.Steps.{first_or_all}
use Rattle.fault_lines.proofs.Breaks.{break_is}
use Rattle.fault_lines.proofs.fault.line_length.Goals as goal

pub returns : goal.returns
returns c = let s = c.args.s.now in
    let found = position_from_yields_List (λ (b : ℕ). eqb b 10) _ _ c.position.result c.position.ensures.ran (YieldsList-from_slice s cc) (λ x b q k. search (rules, tests)) in
    c.unwrap_or.ensures ∙ ap (λ r. unwrap_or r (length s)) found ∙ first_or_all _ _ (prefix_len-le-length (λ (b : ℕ). not (eqb b 10)) s) ∙ break_is s
