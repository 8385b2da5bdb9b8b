use Rattle.lane_rows.proofs.Fours.{Fours}
use Rattle.lane_rows.proofs.step_fours.Given as goal

abbrev pub invariant-loop-k : goal.invariant-loop-k
invariant-loop-k l = Fours l.t l.initial.w l.w l.d l.e l.out l.k l.sum
