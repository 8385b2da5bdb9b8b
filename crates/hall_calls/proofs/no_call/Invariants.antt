use Rattle.hall_state.specs.declared.Question.TheVariants.{CrewCall}
use Rattle.hall_moves.specs.Asks.{AskedAt}
use Rattle.hall_calls.specs.Calls.{Passing}
use Rattle.hall_calls.proofs.no_call.Given as goal

abbrev pub invariant-loop-d : goal.invariant-loop-d
invariant-loop-d l = (k : AskedAt CrewCall l.ground l.initial.rows l.p) → Passing l.ground l.initial.rows l.rows l.p.step k.calls k.cs l.d l.total
