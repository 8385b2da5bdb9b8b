-- What is known of an accepted job text.
use Rattle.std.specs.Prelude.{ℕ, ◌≤◌, List, length, Option, Some, None}
use Rattle.model.specs.Limits.{most_walk}
use Rattle.bands.specs.Bands.{UpTo}
use Rattle.base.specs.Each.{All}
use Rattle.jobs.specs.Valid.{ValidJob}
use Rattle.part_lines.specs.Valid.{Spelt}
use Rattle.job_grammar.specs.Grammar.{JobText, Given, meant}

-- the job that it means, at the high ends and at the low ends
pub record Valid (g : Given) : Type 0 where
  pub job : ValidJob g.job
  pub low : ValidJob g.low
  -- E11. low ends are nowhere above high ends
  pub ordered : UpTo g.low g.job

-- "`idles` 1..365": where idle steps are written there are some
abbrev pub SomeIdles : Option (List ℕ) → Type 0
SomeIdles None = Unit {0}
SomeIdles (Some is) = 1 ≤ length is

-- E10. "checked as before": a walk number that is written is in its range
abbrev pub Allowed : Option ℕ → Type 0
Allowed None = Unit {0}
Allowed (Some w) = w ≤ most_walk

-- what it says
pub record ValidText (t : JobText) : Type 0 where
  pub means : Valid (meant t)
  pub idles : SomeIdles t.idles
  pub walk : Allowed t.walk
  pub lines : All (Spelt (length t.openings)) t.parts
