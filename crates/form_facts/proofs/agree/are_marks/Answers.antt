-- `are_marks`: what `all` answers is what the definition says.
use Prim.Native.Nat.{ℕ}
use mathlib.Core.Path.{◌∙◌}
use borrow.Author.Rules.{rules}
use lib.Dec.{leb}
use Rattle.std.proofs.Common.{tests}
use Rattle.std.proofs.lemmas.Iterator.{YieldsList-from_slice}
use Rattle.std.proofs.lemmas.Iterator.Search.{all_from_yields_List}
use Rattle.form_facts.proofs.Facts.{marks_listed}
use Rattle.form_facts.proofs.agree.are_marks.Goals as goal

pub returns : goal.returns
returns c = let xs = c.args.marks.now in
    all_from_yields_List (λ (x : ℕ). leb x 1) _ _ c.all.result c.all.ensures.ran (YieldsList-from_slice xs cc) (λ x b q k. search (rules, tests)) ∙ marks_listed xs
