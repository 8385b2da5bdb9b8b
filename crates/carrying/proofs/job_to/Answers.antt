-- `job_to`: the job with its first openings alone is valid where the job is.
use mathlib.Core.Path.{sym, subst}
use native.Mathlib.Omega.{arith}
use Rattle.jobs.specs.Views.{job_of}
use Rattle.jobs.specs.Valid.{ValidJob}
use Rattle.jobs.proofs.Jobs.{sized, opening_count_lem2}
use Rattle.log_grammar.proofs.Past.{to_valid}
use Rattle.carrying.proofs.job_to.Goals as goal

pub of-requires : goal.of-requires
of-requires c = let job = job_of c.args.job.now.job in
    let n = c.past_count.result in
    record {
      sized = sized c.past_job-past.result;
      valid = subst ValidJob (sym c.past_job-past.ensures.0) (to_valid n job (omega (arith, c.past_count.ensures.1, opening_count_lem2 c.args.job.now.job)) c.args.job.now.valid);
    }
