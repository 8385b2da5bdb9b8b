use Prim.Native.Nat.{ℕ}
use Rattle.longest_walk.specs.Count.{in_time_lem}
use Rattle.base.specs.Filled.{FilledBy}
use Rattle.node_counts.specs.Row.{noted}
use Rattle.node_counts.proofs.PartGaps.put_row.Given as goal

abbrev pub invariant-loop-m : goal.invariant-loop-m
invariant-loop-m l = FilledBy (λ (i : ℕ). i) (noted (in_time_lem l.self.life l.self.end l.self.first l.self.positions.now) l.j l.initial.row) l.m l.initial.row l.row
