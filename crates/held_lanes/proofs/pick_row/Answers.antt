-- `pick_row` turns each lane by itself.
use Rattle.std.proofs.Common.{rules}
use Rattle.held_lanes.proofs.pick_row.Goals as goal

pub returns : goal.returns
returns c = record { size = c.turn.ensures.size; lanes = λ q l. let p = c.turn.ensures.lanes q l in search rules }
