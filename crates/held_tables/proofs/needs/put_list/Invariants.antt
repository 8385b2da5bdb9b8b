use Rattle.held_tables.proofs.Lists.{Entered}
use Rattle.held_tables.proofs.needs.put_list.Given as goal

abbrev pub invariant-loop-c : goal.invariant-loop-c
invariant-loop-c l = Entered l.needs.marks.now l.classes l.b l.c l.n l.initial.u l.u
