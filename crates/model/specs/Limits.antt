-- X3. The limits that the texts set to a job's numbers, on which the tables and sums of the code rest; and those of the texts and outputs themselves.
use Rattle.std.specs.Prelude.{ℕ, ◌+◌}

-- "`horizon` 2..365", "`opening` 1..365", "`idle` lines, 1..365": the last step that there can be
abbrev pub last_step : ℕ
last_step = 365

-- "T + 1", for the longest horizon
abbrev pub last_position : ℕ
last_position = last_step + 1

-- "`life` 1..1000, `left` 1..1000"; E12.4. "From here on `left` may be 0"
abbrev pub longest_life : ℕ
longest_life = 1000

-- "`fee` 0..1000000", "`price` 1..1000000", E7.2. "`removal` 0..1000000"
abbrev pub dearest : ℕ
dearest = 1000000

-- "`openings` 0..64"
abbrev pub most_openings : ℕ
most_openings = 64

-- "`parts` 1..16"
abbrev pub most_parts : ℕ
most_parts = 16

-- E7.2. "`inside` 0..15": every other part
abbrev pub most_inside : ℕ
most_inside = 15

-- "`walk` 0..4000000000"
abbrev pub most_walk : ℕ
most_walk = 4000000000

-- E7.10. "The plan's `cost` may now be up to 4000000000."
abbrev pub most_cost : ℕ
most_cost = 4000000000

-- E6.3. "The count stops at 4000000000"
abbrev pub most_count : ℕ
most_count = 4000000000

-- X7. "A text has at most 32,768 bytes"
abbrev pub max_bytes : ℕ
max_bytes = 32768

-- X8. "The lent output has at least 16,384"
abbrev pub answer_room : ℕ
answer_room = 16384
