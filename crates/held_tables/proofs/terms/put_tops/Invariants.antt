use Prim.Native.Nat.{ℕ}
use lib.ListN.{get_or}
use Rattle.base.specs.Filled.{FilledBy}
use Rattle.held_lanes.specs.Places.{most_to, class_place, top_place}
use Rattle.held_tables.proofs.terms.put_tops.Given as goal

abbrev pub invariant-loop-j : goal.invariant-loop-j
invariant-loop-j l = FilledBy top_place (λ (jj : ℕ). most_to (λ (c : ℕ). get_or l.initial.u (class_place jj jj c) 0) l.classes.count) l.j l.initial.u l.u
