-- `changes` has a row for each part.
use Rattle.search.specs.Plan.{row_of}
use Rattle.search.proofs.plan.changes.Goals as goal

pub returns : goal.returns
returns c = c.changes_of.ensures (row_of c.args.job.now c.args.stops.now) (λ q p s r l e. e)
