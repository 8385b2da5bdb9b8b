-- A job's numbers in the arrays that the searches over openings and removals take.
use Rattle.jobs.specs.declared.Job.{Job}
use Rattle.jobs.specs.Views.{job_of}
use Rattle.job_numbers.specs.Laid.{Numbered, Laid, prices_with}
use Rattle.held_job.specs.Removed.{HolderNumbersOf}
use Rattle.held_job.specs.declared.layout.Layout.{Layout}

-- the arrays are those of the job, the prices with what holders and removals add
pub record LaidOut (j : Job) (r : Layout) : Type 0 where
  pub numbers : Numbered (job_of j) j.opening_count j.part_count r.numbers
  pub holders : HolderNumbersOf (job_of j) r.holders
  pub prices : Laid j.part_count (prices_with (job_of j) r.holders.charges) r.prices
