-- `try_level`: a walk from the free sources that was not cut, with what it ends with.
use Prim.Native.Nat.{◌+◌}
use mathlib.Core.Path.{refl}
use native.Mathlib.Omega.{arith}
use Rattle.share_walk.specs.Courses.{lift_in, free_course}
use Rattle.share_walk.proofs.Worth.{ended_lifts}
use Rattle.free_sources.proofs.Starts.{free_ready, tops_least}
use Rattle.level_lifts.proofs.try_level.Goals as goal

pub put_sources-tops-requires : goal.put_sources-tops-requires
put_sources-tops-requires c = let e = c.requires in omega (arith, e.4, e.3.tables.few)

pub lift_of-requires : goal.lift_of-requires
lift_of-requires c = let e = c.requires in omega (arith, e.4, e.3.tables.few)

pub overflow_add-cutoff : goal.overflow_add-cutoff
overflow_add-cutoff c = omega (arith, c.put_sources-tops.ensures.few, c.lift_of.ensures.small)

pub overflow_add-cutoff-2 : goal.overflow_add-cutoff-2
overflow_add-cutoff-2 c = omega (arith, c.put_sources-tops.ensures.few, c.lift_of.ensures.small, c.from.ensures)

pub solve-s-requires : goal.solve-s-requires
solve-s-requires c = let e = c.requires in
    let a = c.args in
    ((e.0, e.1, free_course e.0 e.1 e.2 (lift_in a.lifts.now) a.level, free_ready e.0 e.1 e.2 a.t.now a.x.now a.lifts.now e.3 (lift_in a.lifts.now) (λ k _. refl) a.level e.4 c.put_sources-tops.new.w c.put_sources-tops.ensures.rows), omega arith, omega arith)

pub returns : goal.returns
returns c = λ job shares lanes r so fair fits lifted e.
    let a = c.args in
    let s = c.solve-s in
    let p = c.put_sources-tops in
    let lift = lift_in a.lifts.now in
    let ready = free_ready job shares lanes a.t.now a.x.now a.lifts.now so lift (λ k _. refl) a.level fits p.new.w p.ensures.rows in
    let says = c.lift_by.ensures r e in
    ended_lifts job shares fair lanes lift a.level fits lifted (p.result + c.lift_of.result + c.from.result) 20000 s.new.best s.result
    (s.ensures job shares (free_course job shares lanes lift a.level) ready) says.0 r.lift
    (omega (arith, says.1, p.ensures.sum, tops_least job shares lanes a.t.now a.x.now a.lifts.now so lift (λ k _. refl) a.level fits))
