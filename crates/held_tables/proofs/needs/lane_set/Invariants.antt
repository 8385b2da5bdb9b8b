use Prim.Native.Nat.{ℕ}
use lib.ListN.{get_or}
use Rattle.part_classes.specs.Grouped.{need_in}
use Rattle.held_tables.proofs.Sets.{Gathered}
use Rattle.held_tables.proofs.needs.lane_set.Given as goal

abbrev pub invariant-loop-q : goal.invariant-loop-q
invariant-loop-q l = Gathered (λ (qq : ℕ). need_in l.needs.marks.now l.classes l.b (get_or l.classes.lanes qq 0)) l.q l.set
