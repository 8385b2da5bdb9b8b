-- The hall of some accepted jobs, and what a further line has to be.
use Rattle.std.specs.Prelude.{ℕ, ◌+◌, ◌≤◌, ◌≡◌, List, map, take, length}
use Rattle.model.specs.Model.{Job}
use Rattle.model.specs.Limits.{most_openings, most_parts}
use Rattle.jobs.specs.declared.accepted.Accepted.{Accepted}
use Rattle.jobs.specs.Views.{job_of}
use Rattle.hall_model.specs.Hall.{Hall, horizon_of, idles_of}
use Rattle.hall_model.specs.Limits.{parts_in, openings_in}

-- an accepted job in the model's terms
abbrev pub line_of_lem : Accepted → Job
line_of_lem a = job_of a.job

-- the first `count` of some accepted jobs, with a call at this price
abbrev pub hall_with : ℕ → ℕ → List Accepted → Hall
hall_with call count jobs = record { call = call; jobs = map line_of_lem (take count jobs) }

-- E14.10. the job may stand behind these lines, of which there is one: its horizon and idles are the first one's, and it takes the hall past neither 16 parts nor 64 openings
pub record Joins (before : List Job) (job : Job) : Type 0 where
  pub same_horizon : job.horizon ≡ horizon_of before
  pub same_idles : job.idles ≡ idles_of before
  pub parts : parts_in before + length job.parts ≤ most_parts
  pub openings : openings_in before + length job.openings ≤ most_openings
