-- X4. The plan's lines, read against a job: "`cost` 0..2000000000 [E7.10: "up to 4000000000"]; `stops` 0..64; for each, `stop` 1..365 and `count` 0..16, then that many `part` 1..16."
use Rattle.std.specs.Prelude.{ℕ, ◌+◌, List, [], ◌∷◌, map, Bool, false, ◌&&◌, ◌||◌, length, ltb, eqb}
use Rattle.lines.specs.Parser.{Parser, ◌>>=◌, return, row, checked, chain, rising, Outcome, accepted, read_text}
use Rattle.model.specs.Model.{Opening, Job, Plan, listed}
use Rattle.model.specs.Limits.{last_step, most_openings, most_parts, most_cost}
use Rattle.model.specs.Windows.{open_at}
pub use Rattle.model.specs.Model.{table}
pub use Rattle.model.specs.Limits.{max_bytes}

-- a stop as the text has it: its step, and the numbers of the parts changed there
pub record Visit : Type 0 where
  pub step : ℕ
  pub parts : List ℕ

-- what a plan text says: the cost that it states, and the plan
pub record Stated : Type 0 where
  pub cost : ℕ
  pub plan : Plan

-- something in a list passes a test
unfoldable pub any : {A : Type 0} → (A → Bool) → List A → Bool
any test [] = false
any test (x ∷ xs) = test x || any test xs

-- ---- lines

-- X6, R9. "Stops rise and are openings", else number 9
abbrev pub may_stop : Job → ℕ → ℕ → Bool
may_stop job before step = ltb before step && open_at job step

-- X6, R9. "parts within a stop rise and exist", else number 9: a part of m after the one before
unfoldable pub part : ℕ → ℕ → Parser ℕ
part m before = checked 9 (rising before m) (row "part=" 1 most_parts)

-- the n parts of a stop, each after the one before
unfoldable pub parts : ℕ → ℕ → Parser (List ℕ)
parts m n = chain (part m) (λ _ k. k) n 0

-- a stop after the step before it, and its parts
unfoldable pub visit : Job → ℕ → Parser Visit
visit job before = do
  step ← checked 9 (may_stop job before) (row "stop=" 1 last_step)
  n ← row "count=" 0 most_parts
  ks ← parts (length job.parts) n
  return (record { step = step; parts = ks })

-- X6. n stops, each after the one before
unfoldable pub visits : Job → ℕ → Parser (List Visit)
visits job n = chain (visit job) (λ _ v. v.step) n 0

-- ---- the plan that visits make

-- a stop is made at the step
abbrev pub visited : List Visit → ℕ → Bool
visited vs step = any (λ (v : Visit). eqb v.step step) vs

-- part k is changed at the step
abbrev pub changed : List Visit → ℕ → ℕ → Bool
changed vs k step = any (λ (v : Visit). eqb v.step step && listed v.parts k) vs

-- a set of openings, by their steps
abbrev pub openings_at : Job → (ℕ → Bool) → List Bool
openings_at job test = map (λ (o : Opening). test o.step) job.openings

-- M10. "a set of openings, its stops, and for each part a set of openings at which it is changed"; parts are numbered from 1
unfoldable pub plan_of : Job → List Visit → Plan
plan_of job vs = record {
  stops = openings_at job (visited vs);
  changes = table (λ k. openings_at job (changed vs (k + 1))) (length job.parts);
}

-- ---- the text

-- the lines of a plan, wherever they begin
unfoldable pub plan_lines : Job → Parser Stated
plan_lines job = do
  cost ← row "cost=" 0 most_cost
  n ← row "stops=" 0 most_openings
  vs ← visits job n
  return (record { cost = cost; plan = plan_of job vs })

-- E5. "An empty plan text shall mean a plan of no stops and cost 0."
abbrev pub nothing : Job → Stated
nothing job = record { cost = 0; plan = plan_of job [] }

-- X7. "A text has at most 32,768 bytes". The whole text: what it states, or its first fault's number and line
unfoldable pub read_plan_lem : Job → List ℕ → Outcome Stated
read_plan_lem job [] = accepted (nothing job)
read_plan_lem job (b ∷ s) = read_text max_bytes (plan_lines job) (b ∷ s)
