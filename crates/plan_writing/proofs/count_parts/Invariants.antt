use mathlib.Core.Path.{◌≡◌}
use lib.ListN.{length}
use Rattle.plan_text.specs.Views.{numbers_at}
use Rattle.plan_writing.proofs.count_parts.Given as goal

abbrev pub invariant-loop-part : goal.invariant-loop-part
invariant-loop-part l = l.n ≡ length (numbers_at l.plan l.part-index l.i)
