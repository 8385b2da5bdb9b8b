use Prim.Native.Nat.{◌≤◌, ◌<◌, ◌^◌}
use mathlib.Core.Path.{◌≡◌}
use Rattle.lines.specs.Text.{decimal, decimal_in}
use Rattle.line_writing.proofs.digits.digit_count.Given as goal

abbrev pub invariant-loop-k : goal.invariant-loop-k
invariant-loop-k l = (1 ≤ l.k) × (l.n < 10 ^ l.k) × (decimal l.n ≡ decimal_in l.k l.n)
