-- What a job text says, for the promises of the calls.
use Rattle.std.specs.Prelude.{ℕ, ◌≡◌, List}
use Rattle.lines.specs.Parser.{accepted}
use Rattle.model.specs.Model.{Job}
use Rattle.job_grammar.specs.Grammar.{JobText, Given, meant, read_job_lem}

-- the job that a job's lines mean, at the high ends of its prices; its `walk` line is set aside
abbrev pub meant_job : JobText → Job
meant_job t = (meant t).job

-- the job text says a job
pub record JobReading (text : List ℕ) : Type 0 where
  pub given : Given
  pub is : read_job_lem text ≡ accepted given

module _ {text : List ℕ} where
  -- the job that it says
  abbrev pub job_in : JobReading text → Job
  job_in r = r.given.job
