-- `is_part_banded`: a rule has none; else one of the low ends is there.
use Prim.Native.Nat.{ℕ}
use mathlib.Core.Path.{sym, ap, ◌∙◌}
use lib.ListN.{take}
use Rattle.low_ends.specs.Marks.{one_of}
use Rattle.low_ends.proofs.Prices.{pair_there}
use Rattle.low_ends.proofs.Parts.{ruled_plain, quoted_banded}
use Rattle.low_ends.proofs.is_part_banded.Goals as goal

pub returns-in-Some : goal.returns-in-Some
returns-in-Some c highs e = sym (ruled_plain c.args.said highs c.in-Some.is)

pub returns-in-None : goal.returns-in-None
returns-in-None c highs e = let a = c.args in
    c.one_paired.ensures ∙ ap (λ (k : ℕ). one_of (take k a.said.lows)) (sym e) ∙ sym (quoted_banded a.said highs c.in-None.is ∙ pair_there a.said.lows highs)
