use Prim.Native.Nat.{◌-◌}
use mathlib.Core.Path.{◌≡◌}
use mathlib.Core.Bool.{false}
use mathlib.Core.List.{◌++◌}
use lib.ListN.{length, drop, replicate}
use Rattle.model.specs.Limits.{most_openings}
use Rattle.search_state.specs.State.{bits}
use Rattle.search.proofs.plan.stops_of.Given as goal

abbrev pub invariant-loop-k : goal.invariant-loop-k
invariant-loop-k l = (length l.out ≡ most_openings) × (bits l.k l.m ++ drop l.k l.out ≡ bits l.n l.mask ++ replicate (most_openings - l.n) false)
