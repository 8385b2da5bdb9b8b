-- `latest_plan`: the changes of the first k parts are made.
use Prim.Native.Nat.{◌<◌}
use mathlib.Core.Path.{◌≡◌, ap, ◌∙◌}
use native.Mathlib.Omega.{arith}
use lib.ListN.{length-set}
use Rattle.jobs.proofs.Jobs.{parts_long, parts_taken, taken_at, valid_taken}
use Rattle.latest_changes.proofs.Rows.{row_of, rows_more, ranged, plan_is}
use Rattle.latest_changes.proofs.latest_plan.Goals as goal

pub latest_of-requires : goal.latest_of-requires
latest_of-requires c = let j = c.args.job.now.job in
    let placed = c.positions_of-positions in (
      ranged j placed.result placed.ensures,
      c.next_stops-nexts.ensures,
      rw c.part_at-part.ensures (valid_taken j c.args.job.now.valid c.loop-k.k c.loop-k-test.true),
    )

pub loop-k-preserved : goal.loop-k-preserved
loop-k-preserved c = let j = c.args.job.now.job in
    let l = c.loop-k in
    let p = c.positions_of-positions.result in
    let room = parts_long j in
    let t : l.k < j.part_count = omega (arith, c.loop-k-test.true, parts_taken j) in (
      length-set l.changes l.k c.latest_of.result ∙ l.invariant.0,
      rows_more j.opening_count p c.args.stops j.parts l.k l.changes c.latest_of.result (omega (arith, room, t)) (omega (arith, l.invariant.0, j.few_parts, t))
          (c.latest_of.ensures ∙ ap (row_of j.opening_count p c.args.stops) (c.part_at-part.ensures ∙ taken_at j l.k c.loop-k-test.true)) l.invariant.1,
    )

pub returns : goal.returns
returns c = let j = c.args.job.now.job in
    let l = c.loop-k in
    let placed = c.positions_of-positions in
    let same : l.k ≡ j.part_count = omega (arith, c.loop-k-test.false, l.auto.k-end, parts_taken j) in
    plan_is j placed.result placed.ensures c.args.stops l.changes (rw same at l.invariant.1)
