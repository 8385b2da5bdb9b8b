-- `one_banded`: the search over what the lines say, whatever the parts are.
use Rattle.std.proofs.Common.{rules, arith, ℕ, ◌≡◌, ◌∙◌}
use lib.ListN.{length, take, replicate, length-replicate}
use Rattle.std.proofs.lemmas.Iterator.{YieldsList-from_slice}
use Rattle.std.proofs.lemmas.Iterator.Search.{any_from_yields_List}
use Rattle.low_ends.proofs.Parts.{said_banded, any_said}
use Rattle.low_ends.proofs.one_banded.Goals as goal

pub returns : goal.returns
returns c ps long = let a = c.args in
    let zeros : length (replicate {A = ℕ} a.n 0) ≡ a.n = length-replicate a.n 0 in
    any_from_yields_List (said_banded a.n) _ _ c.any.result c.any.ensures.ran (YieldsList-from_slice (take a.m a.said) cc) (λ x b q k. search (rules, zeros)) ∙ any_said a.n a.m a.said ps (omega (arith, c.well_formed, c.requires.0)) long
