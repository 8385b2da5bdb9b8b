-- `put_rest`: the masks, the leads, the numbers.
use Rattle.std.proofs.Common.{length, arith}
use Rattle.held_tables.proofs.Filled.{closed}
use Rattle.held_tables.proofs.put_rest.Goals as goal

pub returns : goal.returns
returns c = let a = c.args in
    let m = c.put_masks.ensures in
    closed a.classes.now (length a.numbers.now.removals.now) a.u.now c.put_masks.new.u c.put_leads.new.u c.put_counts.new.u (omega arith) m.0 m.1 c.put_leads.ensures c.put_counts.ensures
