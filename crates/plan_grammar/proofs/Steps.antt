-- The steps of a job's openings, by index: those at which it is open, and of a valid job within their range, and rising.
use Prim.Native.Nat.{ℕ, ◌≤◌, ◌<◌}
use mathlib.Core.Path.{◌≡◌, refl, sym, ap, ◌∙◌}
use mathlib.Core.List.{List, [], ◌∷◌}
use native.Mathlib.Decide.{dec_lt}
use native.Mathlib.Omega.{arith}
use lib.Dec.{eqb}
use lib.ListN.{length, get_or, length-map, get_or-eq_default, get_or-map}
use Rattle.model.specs.Model.{Opening, Job, listed}
use Rattle.model.specs.Windows.{steps_of}
use Rattle.model.proofs.Positions.{rising_above, rising_rises}
use Rattle.jobs.specs.Valid.{ValidOpening, ValidJob}
use Rattle.base.proofs.Lists.{all_at}
use Rattle.plan_grammar.specs.Rendering.{step_at}
use Rattle.plan_grammar.specs.Grammar.{any, table, openings_at}
use Rattle.plan_grammar.proofs.Lists.{table_same, map-table}
use mathlib.Core.Bool.{Bool, ◌||◌}

-- what stands past the end of the openings
abbrev pub no_opening : Opening
no_opening = record { step = 0; fee = 0 }

-- the step of opening i is the step of the job's opening there, 0 past the end
pub step_is : (job : Job) (i : ℕ) → step_at job i ≡ (get_or job.openings i no_opening).step
step_is job i = get_or-map (λ (o : Opening). o.step) job.openings i no_opening

-- a job is open at a step if some opening has it
pub open_any : (os : List Opening) (step : ℕ) → listed (steps_of os) step ≡ any (λ (o : Opening). eqb o.step step) os
unfolding listed any
open_any [] step = refl
open_any (o ∷ os) step = ap (λ (b : Bool). eqb o.step step || b) (open_any os step)

module _ (job : Job) (v : ValidJob job) where
  -- the step of an opening of a valid job is at most 365
  pub step_high : (i : ℕ) → i < length job.openings → step_at job i ≤ 365
  step_high i h = omega (arith, step_is job i, (all_at ValidOpening job.openings no_opening i v.openings h).step_high)

  -- the step of an opening of a valid job is at least 1
  pub step_low : (i : ℕ) → i < length job.openings → 0 < step_at job i
  step_low i h = rising_above job.horizon 0 (steps_of job.openings) v.rising i (rw (length-map job.openings (λ (o : Opening). o.step)) h)

  -- of two openings of a valid job, the later has the later step
  pub step_rises : (i j : ℕ) → i < j → j < length job.openings → step_at job i < step_at job j
  step_rises i j k h = rising_rises job.horizon 0 (steps_of job.openings) v.rising i j k (rw (length-map job.openings (λ (o : Opening). o.step)) h)

  -- past the end there is no step
  pub step_small : (i : ℕ) → step_at job i < 1000
  step_small i = go (dec_lt i (length job.openings))
    where
      go : Dec (i < length job.openings) → step_at job i < 1000
      go (yes h) = omega (arith, step_high i h)
      go (no n) = omega (arith, get_or-eq_default (steps_of job.openings) 0 {n = i} (omega (arith, n, length-map job.openings (λ (o : Opening). o.step))))

-- the openings by index
pub openings-table : (job : Job) (test : ℕ → Bool) → openings_at job test ≡ table (λ i. test (step_at job i)) (length job.openings)
openings-table job test =
    map-table (λ (o : Opening). test o.step) job.openings no_opening
    ∙ table_same _ _ (length job.openings) (λ i h. ap test (sym (step_is job i)))
