-- `raise_part` raises the terms to those of a part: by its table over the fees, with every opening allowed.
use mathlib.Core.Bool.{true}
use lib.ListN.{length, take, replicate}
use Rattle.search_tables.specs.Arrays.{lane_part, column_of}
use Rattle.search_tables.specs.Flat.{sheet_in}
use Rattle.search_tables.proofs.Filling.{all_true}
use Rattle.search_tables.proofs.Raising.{raised_by}
use Rattle.search_tables.proofs.flat.FlatJob.raise_part.Goals as goal

pub returns : goal.returns
returns c = let j = c.args.self.now in
    let o = c.offers.ensures in
    let n = length j.positions.now in
    raised_by (sheet_in j) j.arrays.few (column_of (lane_part n j.lives.now j.lefts.now j.prices.now c.args.q)) (take n (replicate 64 true)) c.fill.new.tab c.args.t.now c.raise_rows.new.t (all_true n 64)
    (rw (o.ends, o.places, o.lived.lives, o.lived.begins, o.priced, o.allowed) at c.fill.ensures)
    c.raise_rows.ensures
