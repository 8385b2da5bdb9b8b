-- `held`: the arrays hold the job.
use native.Mathlib.Omega.{arith}
use Rattle.jobs.specs.Views.{job_of}
use Rattle.held_job.proofs.Held as held
use Rattle.held_job.proofs.layout.Layout.held.Goals as goal

pub flat-requires : goal.flat-requires
flat-requires c = let j = c.args.job.now in
    let l = c.args.self.now in
    let r = c.requires in
    record {
      numbered = r.numbers;
      charged = (l.holders.charges, (λ q h. held.charges_range (job_of j.job) l.holders r.holders j.valid q (omega (arith, j.job.few_parts))), r.prices);
    }

pub invariant_of-result : goal.invariant_of-result
invariant_of-result c = let l = c.args.self.now in
    let h = c.requires.holders in
    record {
      few = omega (arith, held.removals_long (job_of c.args.job.now.job) l.holders h, h.few);
      cheap = held.removals_cheap (job_of c.args.job.now.job) l.holders h c.args.job.now.valid;
    }

pub returns : goal.returns
returns c = let j = c.args.job.now in
    let l = c.args.self.now in
    let r = c.requires in
    let f = c.flat.ensures in
    rw (f.ends, f.places, f.fees, f.lives, f.lefts, f.prices)
    (held.holds j.job j.valid l.numbers r.numbers l.holders r.holders l.prices r.prices)
