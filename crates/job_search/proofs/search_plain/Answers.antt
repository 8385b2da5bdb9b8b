-- `search_plain`: the arrays hold the job with its removals added to its prices, so what the search answers for every job that they hold it answers for this one.
use mathlib.Core.Path.{ap, ◌∙◌}
use native.Mathlib.Omega.{arith}
use Rattle.model.specs.Promise.{answer_of}
use Rattle.model.specs.Unheld.{charged_job}
use Rattle.jobs.specs.Views.{job_of}
use Rattle.job_search.proofs.Plain.{job_said, removed_range, holds_charged}
use Rattle.job_search.proofs.search_plain.Goals as goal

pub prices_of-prices-requires : goal.prices_of-prices-requires
prices_of-prices-requires c = λ q h. removed_range c.args.job.now.job c.args.job.now.valid c.removals_of-removals.result c.removals_of-removals.ensures q

pub flat-requires : goal.flat-requires
flat-requires c = record {
  numbered = c.numbers_of-numbers.ensures;
  charged = (c.removals_of-removals.result, (λ q h. removed_range c.args.job.now.job c.args.job.now.valid c.removals_of-removals.result c.removals_of-removals.ensures q), c.prices_of-prices.ensures);
}

pub search-requires : goal.search-requires
search-requires c = omega (arith, c.ranges.limit)

pub returns : goal.returns
returns c = let j = c.args.job.now.job in
    let f = c.flat.ensures in
    job_said j c.requires c.from.result c.search.result
    (c.search.ensures (charged_job (job_of j))
    (rw (f.ends, f.places, f.fees, f.lives, f.lefts, f.prices)
    (holds_charged j c.args.job.now.valid c.removals_of-removals.result c.removals_of-removals.ensures c.numbers_of-numbers.result c.numbers_of-numbers.ensures c.prices_of-prices.result c.prices_of-prices.ensures)))
    ∙ ap (answer_of (job_of j)) c.from.ensures
