-- `put_lanes` writes the row of a yes, then its mark.
use Prim.Native.Nat.{ℕ, ◌+◌, ◌*◌}
use native.Mathlib.Omega.{arith}
use lib.ListN.{get_or, get_or-replicate}
use Rattle.lane_rows.specs.Layout.{lane_count_lem, inf}
use Rattle.lane_rows.specs.Rows.{next_row}
use Rattle.lane_rows.proofs.Putting.{put_mark_lem, put_past}
use Rattle.lane_rows.proofs.put_lanes.Goals as goal

pub next_lanes-requires : goal.next_lanes-requires
next_lanes-requires c = (c.requires, omega arith, λ q l. get_or-replicate {A = ℕ} lane_count_lem q inf 0 (omega (arith, c.requires.stack.narrow)))

pub returns : goal.returns
returns c = let put = c.store_row in
    let next = c.next_lanes in
    let a = c.args in
    let f : ℕ → ℕ = λ q. get_or next.new.acc q 0 in record { put = put_mark_lem f a.w.now a.rows (a.fours * 4) put.new.w (next_row a.t.now a.w.now a.j a.rows) (a.j + 1) c.requires.few c.requires.stack.size c.requires.stack.narrow next.ensures.lanes put.ensures; frame = put_past f a.w.now a.rows (a.fours * 4) put.new.w (a.j + 1) c.requires.few c.requires.stack.narrow put.ensures }
