use Rattle.part_classes.specs.Grouped.{grouping, Grouped}
use Rattle.part_classes.proofs.classes_of.Given as goal

abbrev pub invariant-loop-q : goal.invariant-loop-q
invariant-loop-q l = Grouped l.needs.marks.now l.needs.holding l.q (grouping l.classes)
