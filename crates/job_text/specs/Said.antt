-- What a text says by what its reader keeps of it: its walk number, where that stands, what its parts' lines say, and its job.
use Rattle.std.specs.Prelude.{ℕ, List, take, Option}
use Rattle.job_grammar.specs.Grammar.{Given, meant}
use Rattle.job_grammar.specs.Grammar as grammar
use Rattle.job_grammar.specs.Optionals.{idle_lines}
use Rattle.jobs.specs.Views.{job_of}
use Rattle.jobs.specs.declared.Job.{Job}
use Rattle.part_lines.specs.Views.{parts_lines}
use Rattle.part_lines.specs.declared.said.PartSaid.{PartSaid}

-- what the text says
abbrev pub said_text : Option ℕ → List PartSaid → Job → grammar.JobText
said_text walk said job = record {
  horizon = job.horizon;
  idles = idle_lines (job_of job).idles;
  walk = walk;
  openings = (job_of job).openings;
  parts = parts_lines (take job.part_count said) (job_of job).parts;
}

-- and what it means
abbrev pub said_given : Option ℕ → List PartSaid → Job → Given
said_given walk said job = record { job = job_of job; low = (meant (said_text walk said job)).low; banded = (meant (said_text walk said job)).banded }
