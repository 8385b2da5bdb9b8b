-- What the checks of a job text guarantee of the order of its numbers: R4 and R5. Where more changes are to keep what fewer keep, this is what is needed.
use Rattle.std.specs.Prelude.{List, [], ◌∷◌, ◌≤◌}
use Rattle.model.specs.Model.{Part, Job}
use Rattle.model.specs.Windows.{Rising, steps_of}

-- M5. "a first life R [..], with R at most L", of each part
abbrev pub Lefts : List Part → Type 0
Lefts [] = Unit {0}
Lefts (part ∷ parts) = (part.left ≤ part.life) × Lefts parts

-- X5. "Openings rise and stay within the horizon."
pub record Ordered (job : Job) : Type 0 where
  pub rising : Rising 0 job.horizon (steps_of job.openings)
  pub lefts : Lefts job.parts
