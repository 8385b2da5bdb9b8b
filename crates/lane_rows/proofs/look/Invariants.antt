use Rattle.lane_rows.proofs.Memory.{Looking}
use Rattle.lane_rows.proofs.look.Given as goal

abbrev pub invariant-loop-m : goal.invariant-loop-m
invariant-loop-m g l = Looking l.t l.initial.w l.w l.rows l.j l.m l.sum
