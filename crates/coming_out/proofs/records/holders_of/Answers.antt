-- `holders_of`: row by row, the holders of the part there.
use mathlib.Core.Path.{ap}
use mathlib.Core.Bool.{Bool, false}
use mathlib.Core.List.{List}
use lib.ListN.{get_or}
use Rattle.coming_out.proofs.Said.{marks_at, held_by}
use Rattle.coming_out.proofs.records.holders_of.Goals as goal

pub returns : goal.returns
returns c = let j = c.args.job.now in
    held_by j c.matrix_of.result (c.matrix_of.ensures (marks_at j.parts) (λ q xs h long said. record { size = long; at = λ p. ap (λ (marks : List Bool). get_or marks p false) said }))
