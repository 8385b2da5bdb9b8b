-- `removals_of`: place by place, the removal of the part there.
use Rattle.std.proofs.Common.{rules}
use Rattle.coming_out.proofs.Said.{removal_at, removals_by}
use Rattle.coming_out.proofs.records.removals_of.Goals as goal

pub returns : goal.returns
returns c = let j = c.args.job.now in
    removals_by j c.row_of.result (c.row_of.ensures (removal_at j.parts) (λ q x h said. search rules))
