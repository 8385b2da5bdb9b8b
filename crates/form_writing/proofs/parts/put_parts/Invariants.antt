use lib.ListN.{length}
use Rattle.form_facts.specs.Views.{lists_of}
use Rattle.form_writing.proofs.Loop.{Putting}
use Rattle.form_writing.proofs.parts.put_parts.Given as goal

abbrev pub invariant-loop-rest : goal.invariant-loop-rest
invariant-loop-rest l = Putting l.n (lists_of l.parts) l.initial.out (lists_of l.rest) l.out

abbrev pub decreases-loop-rest : goal.decreases-loop-rest
decreases-loop-rest l = length l.rest.lives.now
