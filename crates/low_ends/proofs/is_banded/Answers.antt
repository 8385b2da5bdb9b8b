-- `is_banded`: the job has as many parts and prices as it says.
use Rattle.jobs.proofs.Jobs.{parts_long}
use Rattle.low_ends.proofs.Sizes.{prices_long}
use Rattle.low_ends.proofs.is_banded.Goals as goal

pub one_banded-requires : goal.one_banded-requires
one_banded-requires c = let j = c.args.job.now.job in (j.few_parts, j.few_openings)

pub returns : goal.returns
returns c = let j = c.args.job.now.job in
    c.one_banded.ensures j.parts (record { size = parts_long j; prices = prices_long c.args.job.now })
