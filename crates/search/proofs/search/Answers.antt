-- `search` answers the job, for each job that the arrays hold: the walk, the mask's stops and the rows of changes.
use mathlib.Core.Path.{sym, subst}
use native.Mathlib.Omega.{arith}
use lib.ListN.{length}
use Rattle.search.specs.declared.Found.{Found}
use Rattle.search.specs.Found.{Finds}
use Rattle.search.proofs.Answered.{stops-length, finds}
use Rattle.search.proofs.search.Goals as goal

pub slice_bounds-changes-end : goal.slice_bounds-changes-end
slice_bounds-changes-end c = sym (stops-length (length c.args.job.now.positions.now) _ c.stops_of-stops.result c.stops_of-stops.ensures)

pub changes-changes-requires : goal.changes-changes-requires
changes-changes-requires c = (omega arith, stops-length (length c.args.job.now.positions.now) _ c.stops_of-stops.result c.stops_of-stops.ensures)

pub returns : goal.returns
returns c job h = let j = c.args.job.now in
    let t = c.stops_of-stops in
    subst (λ (r : Found). Finds job c.args.limit r) (sym c.found_by.ensures)
    (finds job j.end j.positions.now j.fees.now j.lives.now j.lefts.now j.prices.now h c.args.limit c.walked-solved.result c.walked-solved.ensures _ t.ensures c.changes-changes.ensures)
