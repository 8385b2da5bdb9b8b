-- `fill_lanes` makes all lanes. The invariant: the first q are right.
use mathlib.Core.Path.{◌≡◌}
use native.Mathlib.Omega.{arith}
use Rattle.search_tables.proofs.Filling.{lanes_none, lanes_more}
use Rattle.search_tables.proofs.flat.FlatJob.fill_lanes.Goals as goal

pub loop-q-init : goal.loop-q-init
loop-q-init c = let j = c.args.self.now in lanes_none j.end j.positions.now j.lives.now j.lefts.now j.prices.now c.args.t.now (omega arith)

pub fill_part-requires : goal.fill_part-requires
fill_part-requires c = (omega (arith, c.loop-q.auto.tab, c.requires.0), omega arith)

pub loop-q-preserved : goal.loop-q-preserved
loop-q-preserved c = let j = c.args.self.now in
    let l = c.loop-q in
    lanes_more j.end j.positions.now j.lives.now j.lefts.now j.prices.now l.t c.fill_part.new.t l.q j.arrays.few (omega arith) c.fill_part.ensures l.invariant

pub returns : goal.returns
returns c = let z : c.loop-q.q ≡ c.args.lanes = omega arith in rw z at c.loop-q.invariant
