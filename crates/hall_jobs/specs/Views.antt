-- The struct in the model's terms.
use Rattle.std.specs.Prelude.{List}
use Rattle.model.specs.Model.{Job}
use Rattle.hall_model.specs.Hall.{Hall}
use Rattle.hall_jobs.specs.declared.HallJobs.{HallJobs}
use Rattle.hall_jobs.specs.Hall.{hall_with}

-- the hall that a struct holds
abbrev pub hall_of : HallJobs → Hall
hall_of h = hall_with h.call h.count h.jobs

-- its lines
abbrev pub jobs_of : HallJobs → List Job
jobs_of h = (hall_of h).jobs
