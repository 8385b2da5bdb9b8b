-- What is known of a hall is a fact: it has one proof at most. By the structure of what is known, and recursion over the lines.
use Prim.Native.Nat.{ℕ}
use mathlib.Core.List.{List, [], ◌∷◌}
use Rattle.std.proofs.Props.{props}
use Rattle.model.specs.Model.{Job}
use Rattle.model.specs.Windows.{steps_of}
use Rattle.jobs.specs.Facts.{rising_fact}
use Rattle.hall_model.specs.Hall.{Hall, horizon_of, idles_of, Alike, AllAlike, Proper}
use Rattle.hall_model.specs.Limits.{Fits}

-- that a hall is within its limits
pub fits_fact : (hall : Hall) → IsProp (Fits hall)
fits_fact hall = Prim.hlevel props

-- that a line is like the first
alike_fact : (horizon : ℕ) (idles : List ℕ) (job : Job) → IsProp (Alike horizon idles job)
alike_fact horizon idles job = Prim.hlevel (props, rising_fact 0 job.horizon (steps_of job.openings))

all_fact : (horizon : ℕ) (idles : List ℕ) (jobs : List Job) → IsProp (AllAlike horizon idles jobs)
all_fact horizon idles [] = Prim.hlevel props
all_fact horizon idles (job ∷ jobs) = Prim.hlevel (props, alike_fact horizon idles job, all_fact horizon idles jobs)

-- that all its lines are
pub proper_fact : (hall : Hall) → IsProp (Proper hall)
proper_fact hall = all_fact (horizon_of hall.jobs) (idles_of hall.jobs) hall.jobs
