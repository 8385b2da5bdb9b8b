use Rattle.held_tables.specs.Fill.{Lists}
use Rattle.held_tables.proofs.needs.put_lists.Given as goal

abbrev pub invariant-loop-b : goal.invariant-loop-b
invariant-loop-b l = Lists l.needs.marks.now l.classes l.b l.initial.u l.u
