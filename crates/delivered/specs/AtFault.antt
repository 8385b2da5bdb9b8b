-- What stands on the line at fault, by the fault's number, said of the text's own bytes: R2 to R5, R9, R12 to R14, each "on its line".
use Rattle.std.specs.Prelude.{ℕ, ◌+◌, ◌-◌, ◌≤◌, ◌<◌, ◌≡◌, ◌⊎◌, List, [], ◌∷◌, ◌++◌}
use Prim.Native.String.{String}
use Rattle.lines.specs.Text.{bytes, line}
use Rattle.fault_lines.specs.Fault.{skipped}
use Rattle.model.specs.Model.{Job}
use Rattle.branch.specs.Search.{In}

-- ---- lines

-- a kind of line: its key, with the equals sign, and the range of its values
pub record Kind : Type 0 where
  pub key : List ℕ
  pub least : ℕ
  pub most : ℕ

-- the same, with the key as it is written
abbrev pub kind : String → ℕ → ℕ → Kind
kind key least most = record { key = bytes key; least = least; most = most }

-- the text begins with the line of this key and value, its byte 10 at its end
abbrev pub Begins : List ℕ → ℕ → List ℕ → Type 0
Begins key v s = (rest : List ℕ) × (s ≡ line key v ++ rest)

-- with a line of this kind whose value is in its range
abbrev pub Inside : Kind → List ℕ → Type 0
Inside k s = (v : ℕ) × Begins k.key v s × (k.least ≤ v) × (v ≤ k.most)

-- and with one whose value is outside it
abbrev pub Outside : Kind → List ℕ → Type 0
Outside k s = (v : ℕ) × Begins k.key v s × ((v < k.least) ⊎ (k.most < v))

-- X3, and the requests' lines: the kinds of lines that a job text may have
abbrev pub job_kinds : List Kind
job_kinds =
    kind "horizon=" 2 365
    ∷ kind "idles=" 1 365
    ∷ kind "idle=" 1 365
    ∷ kind "walk=" 0 4000000000
    ∷ kind "openings=" 0 64
    ∷ kind "opening=" 1 365
    ∷ kind "fee=" 0 1000000
    ∷ kind "parts=" 1 16
    ∷ kind "life=" 1 1000
    ∷ kind "left=" 0 1000
    ∷ kind "removal=" 0 1000000
    ∷ kind "inside=" 0 15
    ∷ kind "holder=" 1 16
    ∷ kind "price=" 1 1000000
    ∷ kind "low=" 1 1000000
    ∷ kind "high=" 1 1000000
    ∷ kind "base=" 1 1000000
    ∷ kind "drop=" 0 1000000
    ∷ kind "least=" 1 1000000
    ∷ []

-- X4. those of a plan text
abbrev pub plan_kinds : List Kind
plan_kinds = kind "cost=" 0 4000000000 ∷ kind "stops=" 0 64 ∷ kind "stop=" 1 365 ∷ kind "count=" 0 16 ∷ kind "part=" 1 16 ∷ []

-- E12.1. of a log
abbrev pub log_kinds : Job → List Kind
log_kinds job = kind "step=" 1 (job.horizon - 2) ∷ plan_kinds

-- E14.2. and of a hall text
abbrev pub hall_kinds : List Kind
hall_kinds = kind "machines=" 1 4 ∷ kind "call=" 0 1000000 ∷ job_kinds

-- ---- rules of values that are in their range

-- the number that a broken rule has, and the kind of line that it is said of
pub record Rule : Type 0 where
  pub number : ℕ
  pub of : Kind

-- R12, E7.14. "a holder that doesn't rise, is above `parts` or is the part itself"
abbrev pub job_rules : List Rule
job_rules = record { number = 12; of = kind "holder=" 1 16 } ∷ []

-- R9. "a stop that is no opening or doesn't rise; a part that is above `parts` or doesn't rise"
abbrev pub plan_rules : List Rule
plan_rules = record { number = 9; of = kind "stop=" 1 365 } ∷ record { number = 9; of = kind "part=" 1 16 } ∷ []

-- R14. "on that job's first line", which is the one of its horizon
abbrev pub hall_rules : List Rule
hall_rules = record { number = 14; of = kind "horizon=" 2 365 } ∷ job_rules

-- the lines of steps that rise within the horizon
abbrev pub rising_kinds : List Kind
rising_kinds = kind "opening=" 1 365 ∷ kind "idle=" 1 365 ∷ []

-- ---- what a fault's number says of the text

-- of the lines from some line of the text on, where the line at fault is so many lines further down
pub data Told (kinds : List Kind) (rules : List Rule) : ℕ → ℕ → List ℕ → Type 0 where
  -- R2. 2 is of the form, and no more is said
  form : {s : List ℕ} → Told kinds rules 2 0 s
  -- R3. "a value outside its range": the line is well formed, of one of the kinds
  range : {s : List ℕ} (k : Kind) → In k kinds → Outside k s → Told kinds rules 3 0 s
  -- the value is in its range, so 3 comes first
  ruled : {s : List ℕ} (r : Rule) → In r rules → Inside r.of s → Told kinds rules r.number 0 s
  -- R4. "an opening not after the one before": the one two lines above, with its fee between them
  opening_not_after : {s : List ℕ} (before fee step : ℕ) (rest : List ℕ) → s ≡ line (bytes "opening=") before ++ (line (bytes "fee=") fee ++ (line (bytes "opening=") step ++ rest)) → step ≤ before → 1 ≤ step → Told kinds rules 4 2 s
  -- E1.3. "an idle line that doesn't rise"
  idle_not_after : {s : List ℕ} (before step : ℕ) (rest : List ℕ) → s ≡ line (bytes "idle=") before ++ (line (bytes "idle=") step ++ rest) → step ≤ before → 1 ≤ step → Told kinds rules 4 1 s
  -- R4, E1.3. "or past the horizon", which stands above
  past_horizon : {s : List ℕ} (horizon down step : ℕ) (k : Kind) → In k rising_kinds → Begins (bytes "horizon=") horizon s → Begins k.key step (skipped down s) → horizon < step → step ≤ 365 → Told kinds rules 4 down s
  -- R5. "`left` greater than `life`, on the `left` line", the line behind that of the life
  above_life : {s : List ℕ} (life left : ℕ) (rest : List ℕ) → s ≡ line (bytes "life=") life ++ (line (bytes "left=") left ++ rest) → life < left → left ≤ 1000 → Told kinds rules 5 1 s
  -- R13. "low above high, on the `high` line after 3", the line behind that of the low end
  below_low : {s : List ℕ} (low high : ℕ) (rest : List ℕ) → s ≡ line (bytes "low=") low ++ (line (bytes "high=") high ++ rest) → high < low → low ≤ 1000000 → 1 ≤ high → Told kinds rules 13 1 s

-- of a text with this fault on this line
pub record AtFault (kinds : List Kind) (rules : List Rule) (text : List ℕ) (number at : ℕ) : Type 0 where
  -- so many lines of the text come before those that are spoken of
  pub above : ℕ
  pub down : ℕ
  pub here : at ≡ above + down + 1
  pub told : Told kinds rules number down (skipped above text)
