-- `put_needs`: the removals, the sets of lanes, the lists of classes.
use Rattle.std.proofs.Common.{ℕ, List, Bool, subst}
use Rattle.base.specs.Filled.{Filled}
use Rattle.held_lanes.specs.Places.{need_lanes_place}
use Rattle.held_tables.specs.Fill.{LaneSet, Lists}
use Rattle.held_tables.proofs.Filled.{needed}
use Rattle.held_tables.proofs.needs.put_needs.Goals as goal

pub returns : goal.returns
returns c = let n = c.args.numbers.now in
    let k = c.args.classes.now in
    let e = c.needs-needs.ensures in
    let v = c.put_at.new.t in
    let w = c.put_lanes.new.u in
    let z = c.put_lists.new.u in
    needed n.needs.now n.removals.now k c.args.u.now v w z n.few c.put_at.ensures
    (subst (λ (h : ℕ). Filled need_lanes_place (LaneSet n.needs.now k) h v w) e.holding
    (subst (λ (m : List Bool). Filled need_lanes_place (LaneSet m k) c.needs-needs.result.holding v w) e.marks c.put_lanes.ensures))
    (subst (λ (h : ℕ). Lists n.needs.now k h w z) e.holding (subst (λ (m : List Bool). Lists m k c.needs-needs.result.holding w z) e.marks c.put_lists.ensures))
