use Prim.Native.Nat.{ℕ, ◌+◌}
use lib.ListN.{get_or}
use Rattle.base.specs.Filled.{FilledBy}
use Rattle.job_numbers.proofs.put_prices.Given as goal

abbrev pub invariant-loop-i : goal.invariant-loop-i
invariant-loop-i l = FilledBy (λ (i : ℕ). l.at + i) (λ (i : ℕ). get_or l.prices i 0 + l.added) l.i l.initial.flat l.flat
