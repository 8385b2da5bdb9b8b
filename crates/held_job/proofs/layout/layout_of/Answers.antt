-- `layout_of`: the numbers, what holders and removals add, and the prices with the charges.
use Rattle.jobs.specs.Views.{job_of}
use Rattle.held_job.proofs.Held as held
use Rattle.held_job.proofs.layout.layout_of.Goals as goal

pub prices_of-prices-requires : goal.prices_of-prices-requires
prices_of-prices-requires c = held.charges_range (job_of c.args.job.now.job) c.holder_numbers_of-holders.result c.holder_numbers_of-holders.ensures c.args.job.now.valid

pub returns : goal.returns
returns c = record { numbers = c.numbers_of-numbers.ensures; holders = c.holder_numbers_of-holders.ensures; prices = c.prices_of-prices.ensures }
