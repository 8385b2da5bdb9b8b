-- `first_marks`: nothing is written at first.
use Rattle.std.proofs.Common.{arith, refl}
use Rattle.ascent_lanes.proofs.Marks.{nought}
use Rattle.ascent_lanes.proofs.first_marks.Goals as goal

pub loop-k-init : goal.loop-k-init
loop-k-init c = record { size = refl; done = λ k l. absurd (omega (arith, l)); rest = λ k l. nought 65 k }
