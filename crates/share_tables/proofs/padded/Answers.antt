-- `padded` goes through the lanes. The invariant: the first are written.
use Rattle.std.proofs.Common.{arith}
use Rattle.share_tables.proofs.padded.Goals as goal

pub returns : goal.returns
returns c = record { size = omega arith; lives = λ q h. c.loop-q.invariant q (omega (arith, h)) }
