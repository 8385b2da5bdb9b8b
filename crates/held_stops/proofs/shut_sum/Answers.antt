-- `shut_sum` looks at both levels, and then sums the lanes picked from the memo's two rows.
use mathlib.Core.Path.{◌≡◌, ◌∙◌}
use Rattle.lane_rows.specs.Layout.{triangle}
use Rattle.lane_rows.proofs.Memory.{looks_again}
use Rattle.held_stops.proofs.Looked.{all_recalled, asks, sums}
use Rattle.held_stops.proofs.shut_sum.Goals as goal
use Rattle.held_stops.proofs.shut_sum.Goals.{After-row_of-row}

pub recall-requires-2 : goal.recall-requires-2
recall-requires-2 c = let a = c.args in
    looks_again a.t.now a.w.now c.recall.new.w a.rows a.j c.requires.shut c.recall.ensures.recalled

-- where the levels' rows start
row : (c : After-row_of-row) → c.row_of-row.result ≡ triangle c.args.j
row c = c.row_of-row.ensures.rows

pub shut_row-requires : goal.shut_row-requires
shut_row-requires c = let a = c.args in
    asks a.t.now a.u.now a.w.now c.recall.new.w c.recall-2.new.w a.rows a.j c.row_of-row.result c.requires c.recall.ensures c.recall-2.ensures (row (goal.at.shut_row-requires c).After-row_of-row)

pub returns : goal.returns
returns c = let a = c.args in
    let w = c.recall.new.w in
    let v = c.recall-2.new.w in record { sum = c.shut_row.ensures ∙ sums a.t.now a.u.now a.w.now w v a.rows a.j c.row_of-row.result c.requires c.recall.ensures c.recall-2.ensures (row (goal.at.returns c).After-row_of-row) a.set; frame = all_recalled a.t.now a.u.now a.w.now w v a.rows a.j c.row_of-row.result c.requires c.recall.ensures c.recall-2.ensures (row (goal.at.returns c).After-row_of-row) }
