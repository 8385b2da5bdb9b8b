-- `blank_part`: the removal and the holders of a cover without lines.
use mathlib.Core.Path.{ap}
use Rattle.covers.specs.Grammar.{Cover}
use Rattle.part_lines.proofs.blank_part.Goals as goal

pub returns : goal.returns
returns c = let e = c.none-removal.ensures in
    (ap (λ (d : Cover). d.removal) e, ap (λ (d : Cover). d.holders) e)
