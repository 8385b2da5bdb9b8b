-- `needs`: row by row, what the part there needs.
use Rattle.model.specs.Model.{comes_out}
use Rattle.model.specs.Decisions.{of_holders}
use Rattle.holding_parts.proofs.needs.Goals as goal

pub returns : goal.returns
returns c job count rows is = c.matrix_of.ensures (λ q. of_holders job (comes_out job q)) (λ q xs h long said. said c.args.m job h count rows is)
