-- `changes` has a row for each part.
use Rattle.held_search.specs.Planned.{row_at}
use Rattle.held_search.proofs.changes.Goals as goal

pub returns : goal.returns
returns c = c.changes_of.ensures (row_at c.args.parts.now c.args.name.now) (λ q p s r l e. e)
