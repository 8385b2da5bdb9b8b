-- What is known of an accepted job.
use Rattle.std.specs.Prelude.{ℕ, suc, ◌≤◌, ◌<◌, ◌≡◌, List, [], ◌∷◌, length}
use Rattle.base.specs.Each.{All}
use Rattle.model.specs.Model.{Opening, Part, Job}
use Rattle.model.specs.Limits.{last_step, longest_life, dearest, most_openings, most_parts, most_inside}
use Rattle.model.specs.Windows.{Rising, steps_of}
use Rattle.jobs.specs.declared.Job as code
use Rattle.jobs.specs.Views.{job_of, Sized}

-- X3. `opening` 1..365, `fee` 0..1000000; that openings rise is said of the job
pub record ValidOpening (o : Opening) : Type 0 where
  pub step_low : 1 ≤ o.step
  pub step_high : o.step ≤ last_step
  pub fee : o.fee ≤ dearest

-- X3. `price` 1..1000000
abbrev pub ValidPrice : ℕ → Type 0
ValidPrice p = (1 ≤ p) × (p ≤ dearest)

-- E7.2, E7.14. the holders of part k of m: they rise after `before`, are at most m, and none is the part itself
abbrev pub ValidHolders : ℕ → ℕ → ℕ → List ℕ → Type 0
ValidHolders m k before [] = Unit {0}
ValidHolders m k before (h ∷ hs) = (before < h) × (h ≤ m) × (h ≡ k → ⊥) × ValidHolders m k h hs

-- X3, M5. a part of a job with n openings: "one price per opening", "R at most L"; E12.4. "`left` may be 0"
pub record ValidPart (n : ℕ) (p : Part) : Type 0 where
  pub life_low : 1 ≤ p.life
  pub life_high : p.life ≤ longest_life
  pub left_high : p.left ≤ p.life
  -- E7.2. "`removal` 0..1000000, `inside` 0..15"
  pub removal : p.removal ≤ dearest
  pub few_holders : length p.holders ≤ most_inside
  pub priced : length p.prices ≡ n
  pub prices : All ValidPrice p.prices

-- the holders of each of these parts, the first of which is part k of m
abbrev pub HeldFrom : ℕ → ℕ → List Part → Type 0
HeldFrom m k [] = Unit {0}
HeldFrom m k (p ∷ ps) = ValidHolders m k 0 p.holders × HeldFrom m (suc k) ps

-- X3, X5, E1.2. every number and count is in its range, idle steps and openings rise within the horizon, and each part's holders are as `Holds` says
pub record ValidJob (j : Job) : Type 0 where
  pub horizon_low : 2 ≤ j.horizon
  pub horizon_high : j.horizon ≤ last_step
  pub few_idles : length j.idles ≤ last_step
  pub idles : Rising 0 j.horizon j.idles
  pub few_openings : length j.openings ≤ most_openings
  pub openings : All ValidOpening j.openings
  pub rising : Rising 0 j.horizon (steps_of j.openings)
  pub some_part : 1 ≤ length j.parts
  pub few_parts : length j.parts ≤ most_parts
  pub parts : All (ValidPart (length j.openings)) j.parts
  pub holders : HeldFrom (length j.parts) 1 j.parts

-- the struct holds an accepted job: its counts stay within the arrays, and the job is valid
pub record Sound (j : code.Job) : Type 0 where
  pub sized : Sized j
  pub valid : ValidJob (job_of j)
