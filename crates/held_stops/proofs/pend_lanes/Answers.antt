-- `pend_lanes` stores the row of a stop.
use Prim.Native.Nat.{ℕ}
use mathlib.Core.Path.{◌∙◌}
use native.Mathlib.Omega.{arith}
use lib.ListN.{get_or-replicate}
use Rattle.lane_rows.specs.Layout.{lane_count_lem, inf}
use Rattle.held_stops.proofs.pend_lanes.Goals as goal

pub next_lanes-requires : goal.next_lanes-requires
next_lanes-requires c = (c.requires, omega arith, λ q l. get_or-replicate {A = ℕ} lane_count_lem q inf 0 (omega (arith, c.requires.stack.narrow)))

pub returns : goal.returns
returns c = let f = c.store_row.ensures in
    record { size = f.size; done = λ q l. f.done q l ∙ c.next_lanes.ensures.lanes q l; rest = f.rest }
