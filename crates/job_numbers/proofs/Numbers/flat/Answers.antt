-- `flat`: the arrays of a job's numbers are such as the searches ask for.
use Rattle.clock.proofs.Ranges.{position_bits}
use Rattle.job_numbers.proofs.Arrays.{plain_arrays}
use Rattle.job_numbers.proofs.Numbers.flat.Goals as goal

pub invariant_of-result : goal.invariant_of-result
invariant_of-result c = let r = c.args.self.now in
    let q = c.requires in
    record { arrays = rw (position_bits r.placed.end q.numbered.placed.end_range) (plain_arrays c.args.job.now.job c.args.job.now.valid r q.numbered q.charged.0 q.charged.1 c.args.prices.now q.charged.2) }
