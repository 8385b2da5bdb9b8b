-- `come_out`: row by row, what comes out with the part there.
use Rattle.model.specs.Model.{comes_out}
use Rattle.coming_out.proofs.come_out.Goals as goal

pub returns : goal.returns
returns c job held = c.matrix_of.ensures (comes_out job) (λ q xs h long said. said job held)
