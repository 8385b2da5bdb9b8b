-- `put_stop` writes the row and its mark, and forgets what was known of it.
use mathlib.Core.Path.{refl}
use native.Mathlib.Omega.{arith}
use lib.ListN.{set}
use Rattle.lane_rows.specs.Layout.{mark_place, lanes_in}
use Rattle.lane_rows.proofs.Putting.{put_mark_lem, put_past}
use Rattle.lane_rows.proofs.Memory.{put_forgets, memo_put}
use Rattle.held_lanes.specs.Tables.{shut_row}
use Rattle.held_stops.proofs.put_stop.Goals as goal

pub returns : goal.returns
returns c = let a = c.args in
    let p = c.requires.0 in
    let d = c.stop_row in
    let wide = lanes_in a.t.now in
    let f = shut_row a.v.now a.rows a.set in
    let w = d.new.w in
    let u = set w (mark_place a.rows) a.at in
    let put = put_mark_lem f a.w.now a.rows wide w f a.at p.few (omega arith) p.narrow (λ q l. refl) d.ensures in
    let past = put_past f a.w.now a.rows wide w a.at p.few p.narrow d.ensures in record { put = put_forgets wide f a.w.now u c.forget.new.w a.rows a.at put past c.forget.ensures p.few c.requires.2 p.narrow; memo = memo_put wide f a.w.now u c.forget.new.w a.rows a.at put past c.forget.ensures p.few c.requires.2 p.narrow a.t.now p.narrow c.requires.1 }
