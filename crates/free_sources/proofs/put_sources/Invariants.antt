use Prim.Native.Nat.{◌+◌, ◌≤◌}
use Rattle.free_sources.specs.Free.{FreeRows}
use Rattle.free_sources.proofs.put_sources.Given as goal

abbrev pub invariant-loop-m : goal.invariant-loop-m
invariant-loop-m l = (l.m ≤ l.level + 1) × FreeRows l.t l.level l.w l.m
