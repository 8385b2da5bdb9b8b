-- `share`: what is kept of the ascent's shares.
use Rattle.share_tables.proofs.share.Goals as goal

pub returns-clause-kept : goal.returns-clause-kept
returns-clause-kept c = record { raw = c.ascend-value.new.best; before = c.mark.new.x; marked = c.mark.ensures; kept = c.check.ensures }
