-- `joined`: a job that the rule admits joins the lines, and is counted with them.
use mathlib.Core.Path.{ap}
use native.Mathlib.Omega.{arith}
use Rattle.jobs.specs.Views.{job_of, part_of_lem, opening_of}
use Rattle.base.proofs.Lists.{firsts_size}
use Rattle.hall_model.specs.Hall.{Hall}
use Rattle.hall_model.specs.Limits.{parts_in, openings_in}
use Rattle.hall_jobs.specs.Hall.{line_of_lem}
use Rattle.hall_jobs.specs.Views.{jobs_of}
use Rattle.hall_grammar.proofs.Accepted.{more_parts, more_openings}
use Rattle.hall_text.proofs.Joins.{joins_so}
use Rattle.hall_text.proofs.sofar.SoFar.joined.Goals as goal

pub joined-requires-clause-few : goal.joined-requires-clause-few
joined-requires-clause-few c = let h = c.args.self.hall in omega (arith, c.requires.few, firsts_size line_of_lem h.jobs h.count (omega (arith, h.few, h.long)))

pub joined-requires-clause-joins : goal.joined-requires-clause-joins
joined-requires-clause-joins c = joins_so (jobs_of c.args.self.hall) (job_of c.args.job.now.job) c.args.self.hall.fits.some c.requires.joins

pub invariant_of-result : goal.invariant_of-result
invariant_of-result c =
    let s = c.args.self in
    let j = c.args.job.now.job in
    let so = ap (λ (h : Hall). h.jobs) c.joined.ensures in
    record {
      counts_parts = omega (arith, s.counts_parts, ap parts_in so, more_parts (jobs_of s.hall) (job_of j), firsts_size (part_of_lem j.opening_count) j.parts j.part_count (omega (arith, j.few_parts, j.long_parts)));
      counts_openings = omega (arith, s.counts_openings, ap openings_in so, more_openings (jobs_of s.hall) (job_of j), firsts_size opening_of j.openings j.opening_count (omega (arith, j.few_openings, j.long_openings)));
    }
