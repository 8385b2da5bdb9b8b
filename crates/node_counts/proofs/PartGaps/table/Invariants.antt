use mathlib.Core.Path.{◌≡◌}
use lib.ListN.{length}
use Rattle.longest_walk.specs.Count.{in_time_lem}
use Rattle.node_counts.specs.Row.{Row}
use Rattle.node_counts.proofs.PartGaps.table.Given as goal

abbrev pub invariant-loop-j : goal.invariant-loop-j
invariant-loop-j l = (length l.row ≡ 65) × Row (in_time_lem l.self.life l.self.end l.self.first l.self.positions.now) (length l.self.positions.now) l.j l.row
