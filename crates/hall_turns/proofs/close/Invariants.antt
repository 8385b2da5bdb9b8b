use Prim.Native.Nat.{ℕ, ◌≤◌}
use mathlib.Core.Path.{◌≡◌}
use Rattle.hall_state.specs.Courses.{rows_at}
use Rattle.hall_turns.specs.Turns.{KeptLines}
use Rattle.hall_turns.proofs.close.Given as goal

abbrev pub invariant-loop-d : goal.invariant-loop-d
invariant-loop-d l = KeptLines l.initial.rows l.rows l.best l.ground.ats l.d × ((e : ℕ) → l.d ≤ e → rows_at l.rows e ≡ rows_at l.initial.rows e)
