-- `digit_run`: the search for a byte that is no digit, in the definition's words.
use Rattle.std.proofs.Common.{rules, tests, ℕ, length, ap, ◌∙◌}
use Rattle.std.specs.Option.{unwrap_or}
use Rattle.std.proofs.lemmas.Iterator.{YieldsList-from_slice}
use Rattle.std.proofs.lemmas.Iterator.Search.{position_from_yields_List}
use Rattle.std.proofs.lemmas.List.Sums.{prefix_len-le-length}
use mathlib.Core.Bool.{not}
use Rattle.lines.specs.Line.{is_digit}
use Rattle.lines.proofs.Reading.{run_is}
use Rattle.lines.proofs.Steps.{first_or_all}
use Rattle.lines.proofs.read.digit_run.Goals as goal

pub returns : goal.returns
returns c = let s = c.args.s.now in
    let found = position_from_yields_List (λ (b : ℕ). not (is_digit b)) _ _ c.position.result c.position.ensures.ran (YieldsList-from_slice s cc) (λ x b q k. search (rules, tests)) in
    c.unwrap_or.ensures ∙ ap (λ r. unwrap_or r (length s)) found ∙ first_or_all _ _ (prefix_len-le-length (λ (b : ℕ). not (not (is_digit b))) s) ∙ run_is s
