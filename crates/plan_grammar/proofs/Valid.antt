-- What is known of the lines of a plan that were accepted, by their ranges and rules.
use Prim.Native.Nat.{ℕ, ◌≤◌, ◌<◌}
use mathlib.Core.Path.{◌≡◌}
use mathlib.Core.List.{List, []}
use mathlib.Core.Bool.{true, and-eq-true_iff}
use native.Mathlib.Omega.{arith}
use lib.Dec.{leb, ltb}
use lib.ListN.{length}
use borrow.Author.Tests.{ltb-true, leb-true}
use Rattle.lines.specs.Parser.{row, checked, rising}
use Rattle.lines.proofs.Sound.{Gives, row_gives, checked_gives}
use Rattle.base.specs.Each.{Chained}
use Rattle.model.specs.Model.{Job}
use Rattle.model.specs.Windows.{open_at}
use Rattle.plan_grammar.specs.Grammar.{Visit, Stated, may_stop, part, plan_of}

-- "parts within a stop rise and exist": a part of m after the one before
abbrev pub ValidPart : ℕ → ℕ → ℕ → Type 0
ValidPart m before k = (before < k) × (k ≤ m)

-- the parts of a stop rise from 1 on, and each is one of m
abbrev pub ValidParts : ℕ → List ℕ → Type 0
ValidParts m ks = Chained (ValidPart m) (λ _ k. k) 0 ks

-- "Stops rise and are openings"
pub record ValidVisit (job : Job) (before : ℕ) (v : Visit) : Type 0 where
  -- the stop comes after the step of the stop before it
  pub later : before < v.step
  -- the stop's step is at most 365, the last that there can be
  pub high : v.step ≤ 365
  pub opening : open_at job v.step ≡ true
  -- at most 16 parts are changed at the stop
  pub few : length v.parts ≤ 16
  -- the parts changed at the stop rise, and are parts of the job
  pub parts : ValidParts (length job.parts) v.parts

-- the step at which a visit makes its stop
abbrev pub step_of : Visit → ℕ
step_of v = v.step

-- visits that a plan text may have: at most 64, rising, each valid
pub record ValidVisits (job : Job) (vs : List Visit) : Type 0 where
  -- there are at most 64 visits, as many as openings there may be
  pub few : length vs ≤ 64
  -- each visit is valid after the step of the one before
  pub each : Chained (ValidVisit job) (λ _. step_of) 0 vs

-- none at all
pub no_visits : (job : Job) → ValidVisits job []
no_visits job = record { few = omega arith; each = tt }

-- what a plan text states: a cost within its range, and the plan that valid visits make
pub record Valid (job : Job) (stated : Stated) : Type 0 where
  -- the stated cost is at most 4000000000, the most that the text allows
  pub cost : stated.cost ≤ 4000000000
  -- the visits, stop by stop, that the text has
  pub vs : List Visit
  -- these visits are valid for the job
  pub visits : ValidVisits job vs
  -- the stated plan is the one that these visits make
  pub makes : plan_of job vs ≡ stated.plan

-- ---- lines

-- an accepted `part` line has a part of the job, after the one before
pub part_gives : (m before : ℕ) → Gives (part m before) (ValidPart m before)
unfolding part
part_gives m before s s' l l' k e =
    let t = checked_gives 9 (rising before m) (row "part=" 1 16) _ (row_gives _ 1 16) s s' l l' k e in
    let b = (and-eq-true_iff (ltb before k) (leb k m)).0 t.1 in
    (ltb-true before k b.0, leb-true k m b.1)

-- an accepted `stop` line has an opening's step up to 365, after the stop before
pub stop_gives : (job : Job) (before : ℕ) → Gives (checked 9 (may_stop job before) (row "stop=" 1 365)) (λ t. (t ≤ 365) × (before < t) × (open_at job t ≡ true))
stop_gives job before s s' l l' t e =
    let g = checked_gives 9 (may_stop job before) (row "stop=" 1 365) _ (row_gives _ 1 365) s s' l l' t e in
    let b = (and-eq-true_iff (ltb before t) (open_at job t)).0 g.1 in
    (g.0.1, ltb-true before t b.0, b.1)
