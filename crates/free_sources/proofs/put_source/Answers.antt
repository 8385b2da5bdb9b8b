-- `put_source` turns each lane by itself, and puts the row.
use Prim.Native.Nat.{ℕ, ◌+◌, ◌*◌}
use mathlib.Core.Path.{◌≡◌, ap, ◌∙◌}
use native.Mathlib.Omega.{arith}
use lib.ListN.{get_or}
use Rattle.std.proofs.Common.{rules}
use Rattle.lane_rows.specs.Layout.{lane_count_lem, suffix_base, place}
use Rattle.share_walk.proofs.Nodes.{put_as}
use Rattle.free_sources.specs.Free.{lacks}
use Rattle.free_sources.proofs.put_source.Goals as goal

pub returns-clause-put : goal.returns-clause-put
returns-clause-put c =
    put_as
    (λ q l. let p = c.turn.ensures.lanes q l in
    let a = c.args in
    let z : (c.row_of.result + a.m) * lane_count_lem + q ≡ place suffix_base a.level a.m q = omega (arith, c.row_of.ensures.rows) in
    let y : get_or c.turn.new.acc q 0 ≡ lacks (get_or a.tops.now q 0) (get_or a.t.now ((c.row_of.result + a.m) * lane_count_lem + q) 0) = search rules in
    y ∙ ap (λ (i : ℕ). lacks (get_or a.tops.now q 0) (get_or a.t.now i 0)) z)
    c.put_top.ensures.put
