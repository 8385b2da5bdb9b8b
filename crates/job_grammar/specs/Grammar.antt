-- X3. The job's lines: "`horizon` 2..365; `walk` 0..4000000000; `openings` 0..64; for each, `opening` 1..365 and `fee` 0..1000000;
-- `parts` 1..16; for each" the lines of a part (`part_lines`).
-- E10. "A job's `walk` line, if it still stands, is checked as before and set aside."
-- E1.2. "After `horizon` a job may have `idles` 1..365 and that many `idle` lines, 1..365, rising and within the horizon; without the line no step is idle."
use Rattle.std.specs.Prelude.{ℕ, Bool, List, [], map, length, Option, Some, None}
use Rattle.lines.specs.Parser.{Outcome, accepted, refused, Parser, ◌>>=◌, return, row, optional, if_present, checked, chain, rising, read_text}
use Rattle.model.specs.Model.{Opening, Part, Job}
use Rattle.model.specs.Limits.{last_step, dearest, most_openings, most_parts, most_walk}
use Rattle.part_lines.specs.Grammar.{PartText, meant_part, low_part_lem, any_banded, part, following}

-- what a job text says: its lines in their order, those that may be missing present or not
pub record JobText : Type 0 where
  pub horizon : ℕ
  pub idles : Option (List ℕ)
  pub walk : Option ℕ
  pub openings : List Opening
  pub parts : List PartText

-- what a job text means. E10. a `walk` line is "set aside"
pub record Given : Type 0 where
  -- the job, at the high ends of its prices
  pub job : Job
  -- E11. the same job at the low ends
  pub low : Job
  -- E11. whether "the job has a `low` line"
  pub banded : Bool

-- E1.2. "without the line no step is idle"
abbrev pub idle_in : Option (List ℕ) → List ℕ
idle_in None = []
idle_in (Some is) = is

-- the job of the lines with these parts
abbrev pub job_with : JobText → List Part → Job
job_with t ps = record { horizon = t.horizon; idles = idle_in t.idles; openings = t.openings; parts = ps }

-- what the lines mean
abbrev pub meant : JobText → Given
meant t = record {
  job = job_with t (map (meant_part (length t.openings)) t.parts);
  low = job_with t (map (low_part_lem (length t.openings)) t.parts);
  banded = any_banded t.parts;
}

-- E1.2, E1.3. an idle step after step `before` and within the horizon h, else number 4
unfoldable pub idle : ℕ → ℕ → Parser ℕ
idle h before = checked 4 (rising before h) (row "idle=" 1 last_step)

-- E1.2. n idle steps, each after the one before
unfoldable pub idle_steps_lem : ℕ → ℕ → Parser (List ℕ)
idle_steps_lem h n = chain (idle h) (λ _ i. i) n 0

-- the number of idle steps and the steps, which may be missing
unfoldable pub idles : ℕ → Parser (Option (List ℕ))
idles h = do
  n ← optional "idles=" 1 last_step
  if_present (idle_steps_lem h) n

-- an opening after step `before` and within the horizon h, and its fee: X5. "Openings rise and stay within the horizon", else number 4
unfoldable pub opening : ℕ → ℕ → Parser Opening
opening h before = do
  o ← checked 4 (rising before h) (row "opening=" 1 last_step)
  f ← row "fee=" 0 dearest
  return (record { step = o; fee = f })

-- X5. n openings with their fees, each after the one before
unfoldable pub openings : ℕ → ℕ → Parser (List Opening)
openings h n = chain (opening h) (λ _ o. o.step) n 0

-- all m parts, numbered from 1 on
unfoldable pub parts : ℕ → ℕ → Parser (List PartText)
parts m n = chain (part m n) following m 1

-- what follows the number n of openings
unfoldable pub body : ℕ → Option (List ℕ) → Option ℕ → ℕ → Parser JobText
body h is w n = do
  os ← openings h n
  m ← row "parts=" 1 most_parts
  ps ← parts m n
  return (record { horizon = h; idles = is; walk = w; openings = os; parts = ps })

-- what follows the idle steps
unfoldable pub rest : ℕ → Option (List ℕ) → Parser JobText
rest h is = do
  w ← optional "walk=" 0 most_walk
  n ← row "openings=" 0 most_openings
  body h is w n

-- the lines of a job
unfoldable pub job_lines : Parser JobText
job_lines = do
  h ← row "horizon=" 2 last_step
  is ← idles h
  rest h is

-- E11. "A job text may now have 40,960 bytes"
abbrev pub max_bytes : ℕ
max_bytes = 40960

-- R1, E11. The whole text: what it says, or its first fault's number and line
abbrev pub read_job_text : List ℕ → Outcome JobText
read_job_text s = read_text max_bytes job_lines s

-- what a text without a fault means; a fault stays as it is
abbrev pub meaning : Outcome JobText → Outcome Given
meaning (accepted t) = accepted (meant t)
meaning (refused n l) = refused n l

-- the job that a whole text means, or its first fault's number and line
abbrev pub read_job_lem : List ℕ → Outcome Given
read_job_lem s = meaning (read_job_text s)
