-- `count`: a first node that is dropped is the only one; else the table has the count.
use mathlib.Core.Path.{sym, ◌∙◌}
use Rattle.longest_walk.specs.Count.{count_for}
use Rattle.node_counts.proofs.PartGaps.count.Goals as goal

pub returns-then-keeps : goal.returns-then-keeps
unfolding count_for
returns-then-keeps c = rw (sym c.keeps.ensures ∙ c.if-keeps.true) c.table.ensures.0

pub returns-else-keeps : goal.returns-else-keeps
unfolding count_for
returns-else-keeps c = rw (sym c.keeps.ensures ∙ c.if-keeps.false)
