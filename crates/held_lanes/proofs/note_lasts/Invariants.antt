use Prim.Native.Nat.{◌≤◌}
use Rattle.base.specs.Filled.{FilledBy}
use Rattle.held_lanes.specs.Places.{last_place}
use Rattle.held_lanes.specs.Tables.{noted}
use Rattle.held_lanes.proofs.note_lasts.Given as goal

abbrev pub invariant-loop-c : goal.invariant-loop-c
invariant-loop-c l = (l.c ≤ l.n) × FilledBy (last_place l.rows) (noted l.u l.initial.v l.at l.rows l.set) l.c l.initial.v l.v
