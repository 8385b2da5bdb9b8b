-- `lane_sum` is a look at all rows.
use Rattle.lane_rows.proofs.lane_sum.Goals as goal

pub returns : goal.returns
returns c = record { sum = c.look.ensures.sum; frame = c.look.ensures.recalled }
