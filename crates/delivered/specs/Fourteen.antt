-- What a hall text's faults are said of, over texts: number 14, where it first has a job that does not fit those before it, on the line that this job begins on; and a job's own faults.
use Rattle.std.specs.Prelude.{ℕ, ◌+◌, ◌≤◌, ◌<◌, ◌≡◌, ◌⊎◌, List, [], ◌∷◌, ◌++◌, map, length}
use Rattle.lines.specs.Text.{line_of, texts}
use Rattle.model.specs.Model.{Job}
use Rattle.job_grammar.specs.Grammar.{JobText}
use Rattle.job_grammar.specs.Rendering.{job_text_lem}
use Rattle.job_grammar.specs.Valid.{ValidText}
use Rattle.hall_model.specs.Limits.{parts_in, openings_in}
use Rattle.job_grammar.specs.Reading.{meant_job}
use Rattle.part_lines.specs.Behind.{BehindParts}
use Rattle.delivered.specs.FirstLines.{first_lines, breaks}

-- "a job whose horizon or idles differ from the first job's"
abbrev pub Unlike : List Job → Job → Type 0
Unlike [] job = ⊥
Unlike (first ∷ jobs) job = (job.horizon ≡ first.horizon → ⊥) ⊎ (job.idles ≡ first.idles → ⊥)

-- "14 for a job whose horizon or idles differ from the first job's, or which takes the hall past 16 parts or 64 openings", behind those before it
abbrev pub Misfit : List Job → Job → Type 0
Misfit before job = Unlike before job ⊎ ((16 < parts_in before + length job.parts) ⊎ (64 < openings_in before + length job.openings))

-- jobs behind others: each is valid, and none is a misfit
abbrev pub Fitting : List Job → List JobText → Type 0
Fitting before [] = Unit {0}
Fitting before (t ∷ ts) = ValidText t × (Misfit before (meant_job t) → ⊥) × Fitting (before ++ (meant_job t ∷ [])) ts

-- the lines of a hall of so many machines up to the end of these jobs
abbrev pub hall_front : ℕ → ℕ → List JobText → List ℕ
hall_front machines call jobs = line_of "machines=" machines ++ (line_of "call=" call ++ texts job_text_lem jobs)

-- a hall text's first lines, then some of its jobs, which fit, and then anything in the next one's place
pub record Front (text : List ℕ) : Type 0 where
  pub machines : ℕ
  pub call : ℕ
  pub jobs : List JobText
  pub behind : List ℕ
  pub some : 1 ≤ machines
  pub few : machines ≤ 4
  pub fair : call ≤ 1000000
  -- there is one machine more
  pub further : length jobs < machines
  pub fitting : Fitting [] jobs
  pub begins : text ≡ hall_front machines call jobs ++ behind

-- how many lines stand before the next job
abbrev pub lines_before : {text : List ℕ} → Front text → ℕ
lines_before f = breaks (hall_front f.machines f.call f.jobs)

-- behind jobs that fit stand the lines of a job that is valid and a misfit, the first of them on this line, and then anything but a further line of this job
pub record MisfitAt (text : List ℕ) (line : ℕ) : Type 0 where
  pub front : Front text
  pub job : JobText
  pub rest : List ℕ
  pub valid : ValidText job
  pub unfit : Misfit (map meant_job front.jobs) (meant_job job)
  pub is : front.behind ≡ job_text_lem job ++ rest
  pub apart : BehindParts job.parts rest
  -- "on that job's first line": the next behind the lines before it
  pub here : line ≡ lines_before front + 1

-- what stands behind some jobs is no further line of the last of them
abbrev pub BehindJobs : List JobText → List ℕ → Type 0
BehindJobs [] s = Unit {0}
BehindJobs (t ∷ []) s = BehindParts t.parts s
BehindJobs (t ∷ u ∷ ts) s = BehindJobs (u ∷ ts) s

-- E14.2. behind jobs that fit stands what has the first lines of this job text, up to the line at which that is at fault: a line of its job, and not the one behind its last
pub record FaultIn (text alone : List ℕ) (at : ℕ) : Type 0 where
  pub front : Front text
  pub apart : BehindJobs front.jobs front.behind
  pub same : first_lines at front.behind ≡ first_lines at alone
  pub inside : (t : JobText) (rest : List ℕ) → ValidText t → alone ≡ job_text_lem t ++ rest → ⊥
