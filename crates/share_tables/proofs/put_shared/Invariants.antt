use Prim.Native.Nat.{ℕ}
use Rattle.base.specs.Filled.{FilledBy}
use Rattle.share_tables.specs.Prepared.{shared_in}
use Rattle.share_tables.proofs.put_shared.Given as goal

abbrev pub invariant-loop-i : goal.invariant-loop-i
invariant-loop-i l = FilledBy (λ (y : ℕ). y) (shared_in l.prices l.x l.things) l.i l.initial.all l.all
