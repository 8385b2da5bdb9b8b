-- `fill_rows` makes the rows of the sheet's tables: as many lanes as the parts fill, then the fees, the number of openings and the number of fours, which keep them.
use mathlib.Core.Path.{refl}
use Rattle.search_tables.proofs.Filling.{tables_filled}
use Rattle.search_tables.proofs.flat.FlatJob.fill_rows.Goals as goal

pub returns : goal.returns
returns c = let j = c.args.self.now in
    let f = c.fours_of-fours in
    tables_filled j.end j.positions.now j.fees.now j.lives.now j.lefts.now j.prices.now c.fill_lanes.new.t c.put_at.new.t _ _
    f.result f.ensures j.arrays c.fill_lanes.ensures c.put_at.ensures refl refl
