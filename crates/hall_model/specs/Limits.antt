-- The limits that the hall's text sets to its numbers; the tables and sums of code rest on them. No theorem about the walk or the promise does.
use Rattle.std.specs.Prelude.{List, map, ℕ, ◌≤◌, length}
use Rattle.model.specs.Model.{Job}
use Rattle.model.specs.Limits.{dearest, most_openings, most_parts}
use Rattle.hall_model.specs.Hall.{Hall, sum_of}

-- E14.2. "`machines` 1..4"
abbrev pub most_lines : ℕ
most_lines = 4

-- E14.2. "`call` 0..1000000"
abbrev pub dearest_call : ℕ
dearest_call = dearest

-- E14.3. "It has at most 65,536 bytes, else 1."
abbrev pub most_hall_bytes : ℕ
most_hall_bytes = 65536

-- the parts of some lines
abbrev pub parts_in : List Job → ℕ
parts_in jobs = sum_of (map (λ (job : Job). length job.parts) jobs)

-- the openings of some lines
abbrev pub openings_in : List Job → ℕ
openings_in jobs = sum_of (map (λ (job : Job). length job.openings) jobs)

-- what the text leaves: E14.2, and E14.10. a job "which takes the hall past 16 parts or 64 openings" is number 14
pub record Fits (hall : Hall) : Type 0 where
  pub some : 1 ≤ length hall.jobs
  pub few : length hall.jobs ≤ most_lines
  pub fair : hall.call ≤ dearest_call
  pub parts : parts_in hall.jobs ≤ most_parts
  pub openings : openings_in hall.jobs ≤ most_openings
