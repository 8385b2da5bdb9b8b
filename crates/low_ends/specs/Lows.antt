-- A job at the low ends of its prices.
use Rattle.std.specs.Prelude.{ℕ, ◌≤◌, ◌<◌, ◌≡◌, List, map, length, get_or, take}
use Rattle.model.specs.Model as model
use Rattle.jobs.specs.Views.{blank_part_lem, job_of}
use Rattle.jobs.specs.declared.Part.{Part}
use Rattle.jobs.specs.declared.Job.{Job}
use Rattle.part_lines.specs.Grammar.{PartText, low_part_lem}
use Rattle.part_lines.specs.Views.{parts_lines}
use Rattle.part_lines.specs.declared.said.PartSaid.{PartSaid}

-- the lines of a job's parts
abbrev pub lines_in : List PartSaid → Job → List PartText
lines_in said job = parts_lines (take job.part_count said) (job_of job).parts

-- the job with these parts
abbrev pub parts_for : Job → List model.Part → model.Job
parts_for job ps = record { horizon = job.horizon; idles = (job_of job).idles; openings = (job_of job).openings; parts = ps }

-- the struct r holds the job at the low ends of its prices
pub record LowJob (said : List PartSaid) (job r : Job) : Type 0 where
  pub is : job_of r ≡ parts_for job (map (low_part_lem (length (job_of job).openings)) (lines_in said job))
  pub idles : r.idle_count ≡ job.idle_count
  pub openings : r.opening_count ≡ job.opening_count
  pub parts : r.part_count ≡ job.part_count

-- there are m parts at least, and the first m have n prices at least
pub record Long (m n : ℕ) (parts : List Part) : Type 0 where
  pub size : m ≤ length parts
  pub prices : (q : ℕ) → q < m → length (take n (get_or parts q blank_part_lem).prices) ≡ n
