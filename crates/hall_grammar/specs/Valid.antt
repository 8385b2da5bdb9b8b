-- What is known of what an accepted hall text says.
use Rattle.std.specs.Prelude.{◌≤◌, ◌≡◌, true, List, [], ◌∷◌, ◌++◌, length}
use Rattle.model.specs.Model.{Job}
use Rattle.job_grammar.specs.Grammar.{JobText}
use Rattle.job_grammar.specs.Valid.{ValidText}
use Rattle.hall_model.specs.Limits.{most_lines, dearest_call}
use Rattle.job_grammar.specs.Reading.{meant_job}
use Rattle.hall_grammar.specs.Grammar.{HallText, joins}

-- each job is valid, and joins those before it
abbrev pub Joined : List Job → List JobText → Type 0
Joined before [] = Unit {0}
Joined before (t ∷ ts) = ValidText t × (joins before (meant_job t) ≡ true) × Joined (before ++ (meant_job t ∷ [])) ts

-- what E14.2 and E14.10 ask of a hall text
pub record ValidHall (t : HallText) : Type 0 where
  pub some : 1 ≤ length t.jobs
  pub few : length t.jobs ≤ most_lines
  pub fair : t.call ≤ dearest_call
  pub jobs : Joined [] t.jobs
