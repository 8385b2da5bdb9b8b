-- The grammars of the job text and of the plan text before E7. They stay for one theorem alone, `AsBefore`: no code and no other promise rests on them.
-- What E7 left as it was is cited: idle steps, openings, the numbers of a part, visits.
use Rattle.std.specs.Prelude.{ℕ, List, [], ◌∷◌, map, Option}
use Rattle.lines.specs.Parser.{Outcome, accepted, refused, Parser, ◌>>=◌, return, row, checked, times, up_to, read_text}
use Rattle.model.specs.Model.{Opening, Part, Job}
use Rattle.model.specs.Limits.{last_step, longest_life, dearest, most_openings, most_parts, most_walk}
use Rattle.job_grammar.specs.Grammar.{idle_in, idles, openings}
use Rattle.plan_grammar.specs.Grammar.{Stated, visits, plan_of}

-- ---- the job text

-- what a part's lines said
pub record PartText : Type 0 where
  pub life : ℕ
  pub left : ℕ
  pub prices : List ℕ

-- what a job text said
pub record JobText : Type 0 where
  pub horizon : ℕ
  pub idles : Option (List ℕ)
  pub walk : ℕ
  pub openings : List Opening
  pub parts : List PartText

-- what a job text meant: the job, and beside it the walk number
pub record Given : Type 0 where
  pub walk : ℕ
  pub job : Job

-- the part: there were no removals and no holders
abbrev pub meant_part : PartText → Part
meant_part p = record { life = p.life; left = p.left; removal = 0; holders = []; prices = p.prices }

-- the job and the walk number
abbrev pub meant : JobText → Given
meant t = record { walk = t.walk; job = record { horizon = t.horizon; idles = idle_in t.idles; openings = t.openings; parts = map meant_part t.parts } }

-- a part, with a price for each of n openings
unfoldable pub part : ℕ → Parser PartText
part n = do
  l ← row "life=" 1 longest_life
  r ← checked 5 (up_to l) (row "left=" 1 longest_life)
  ps ← times n (row "price=" 1 dearest)
  return (record { life = l; left = r; prices = ps })

-- what followed the number n of openings
unfoldable pub body : ℕ → Option (List ℕ) → ℕ → ℕ → Parser JobText
body h is w n = do
  os ← openings h n
  m ← row "parts=" 1 most_parts
  ps ← times m (part n)
  return (record { horizon = h; idles = is; walk = w; openings = os; parts = ps })

-- what followed the idle steps
unfoldable pub rest : ℕ → Option (List ℕ) → Parser JobText
rest h is = do
  w ← row "walk=" 0 most_walk
  n ← row "openings=" 0 most_openings
  body h is w n

-- the lines of a job
unfoldable pub job_lines : Parser JobText
job_lines = do
  h ← row "horizon=" 2 last_step
  is ← idles h
  rest h is

-- X7. "A text has at most 32,768 bytes"
abbrev pub max_bytes : ℕ
max_bytes = 32768

-- the whole text: what it said, or its first fault's number and line
abbrev pub read_job_text : List ℕ → Outcome JobText
read_job_text s = read_text max_bytes job_lines s

-- what a text without a fault meant; a fault stays as it was
abbrev pub meaning : Outcome JobText → Outcome Given
meaning (accepted t) = accepted (meant t)
meaning (refused n l) = refused n l

-- the job and the walk number that a whole text meant, or its first fault's number and line
abbrev pub read_job_lem : List ℕ → Outcome Given
read_job_lem s = meaning (read_job_text s)

-- ---- the plan text

-- X4. "`cost` 0..2000000000"
abbrev pub most_cost : ℕ
most_cost = 2000000000

-- the lines of a plan
unfoldable pub plan_lines : Job → Parser Stated
plan_lines job = do
  cost ← row "cost=" 0 most_cost
  n ← row "stops=" 0 most_openings
  vs ← visits job n
  return (record { cost = cost; plan = plan_of job vs })

-- the whole text; E5. "An empty plan text shall mean a plan of no stops and cost 0."
unfoldable pub read_plan_lem : Job → List ℕ → Outcome Stated
read_plan_lem job [] = accepted (record { cost = 0; plan = plan_of job [] })
read_plan_lem job (b ∷ s) = read_text max_bytes (plan_lines job) (b ∷ s)
