-- `quotes_behind`: the place at which the low ends go on fits.
use Prim.Native.Nat.{ℕ}
use mathlib.Core.Path.{◌≡◌, ap, ◌∙◌}
use native.Mathlib.Omega.{arith}
use lib.ListN.{take}
use Rattle.form_facts.specs.Facts.{sum_of}
use Rattle.form_facts.specs.Views.{lists_of}
use Rattle.first_parts.specs.Fronts.{pairs_first}
use Rattle.first_parts.proofs.Fronts.{pairs_few}
use Rattle.first_parts.proofs.quotes_behind.Goals as goal

pub offset_bounds-quotes-pairs : goal.offset_bounds-quotes-pairs
offset_bounds-quotes-pairs c = let x = lists_of c.args.parts.now in
    let pairs : c.sum-pairs.result ≡ pairs_first c.args.n x = c.sum-pairs.ensures ∙ ap (λ (i : ℕ). sum_of (take i x.banded)) c.listed_first-listed.ensures in
    omega (arith, pairs, pairs_few c.args.n x c.requires)
