-- `put_stop` writes the next row with its shares of the fee less.
use Prim.Native.Nat.{ℕ}
use mathlib.Core.Path.{ap, ◌∙◌}
use native.Mathlib.Omega.{arith}
use lib.ListN.{get_or, get_or-replicate}
use Rattle.lane_rows.specs.Layout.{lane_count_lem, inf}
use Rattle.share_rows.specs.Places.{bear_place, eased_of}
use Rattle.share_walk.proofs.Nodes.{put_as}
use Rattle.share_walk.proofs.put_stop.Goals as goal

pub next_lanes-requires : goal.next_lanes-requires
next_lanes-requires c = (c.requires.0, omega arith, λ q l. get_or-replicate {A = ℕ} lane_count_lem q inf 0 l)

pub returns : goal.returns
returns c = let pu = c.put_top.ensures in
    let a = c.args in record {
      put = put_as (λ q l. c.ease.ensures.lanes q l ∙ ap (λ (v : ℕ). eased_of v (get_or a.x.now (bear_place 0 a.at q) 0)) (c.next_lanes.ensures.lanes q l)) pu.put;
      memo = pu.memo;
    }
