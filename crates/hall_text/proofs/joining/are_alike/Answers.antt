-- `are_alike`: where the horizons are equal, the slices' test decides.
use mathlib.Core.Path.{◌∙◌}
use borrow.Author.Tests.{eq-eqb}
use Rattle.hall_text.proofs.Joins.{same_is}
use Rattle.hall_text.proofs.joining.are_alike.Goals as goal

pub returns-then-job-first : goal.returns-then-job-first
returns-then-job-first c = rw (eq-eqb _ _ c.if-job-first.true) (c.eq.ensures ∙ same_is _ _)
