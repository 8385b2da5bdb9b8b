use Rattle.held_tables.proofs.Masks.{Masked}
use Rattle.held_tables.proofs.put_masks.Given as goal

abbrev pub invariant-loop-set : goal.invariant-loop-set
invariant-loop-set l = Masked l.set l.initial.u l.u
