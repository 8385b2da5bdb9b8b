-- `fill_held`: the terms by classes, the tops, the needs and the rest are the tables for holders.
use Rattle.held_tables.proofs.Sheets.{arrays_of}
use Rattle.held_tables.proofs.Filled.{held_filled}
use Rattle.held_tables.proofs.fill_held.Goals as goal

pub returns : goal.returns
returns c = let n = c.args.numbers.now in
    held_filled n.job.end n.job.positions.now n.job.fees.now n.job.lives.now n.job.lefts.now n.job.prices.now n.needs.now n.removals.now c.args.classes.now (arrays_of n) c.requires.grouped
    c.put_terms.new.u c.put_tops.new.u c.put_needs.new.u c.put_rest.new.u c.put_terms.ensures c.put_tops.ensures c.put_needs.ensures c.put_rest.ensures
