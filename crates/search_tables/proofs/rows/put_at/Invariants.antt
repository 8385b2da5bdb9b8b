use Prim.Native.Nat.{ℕ, ◌+◌}
use lib.ListN.{get_or}
use Rattle.base.specs.Filled.{FilledBy}
use Rattle.search_tables.proofs.rows.put_at.Given as goal

abbrev pub invariant-loop-i : goal.invariant-loop-i
invariant-loop-i l = FilledBy (λ (y : ℕ). l.at + y) (λ (y : ℕ). get_or l.from y 0) l.i l.initial.t l.t
