-- A line that joins some lines of which there is one: together they are alike, and within the limits. By recursion over those before it.
use Prim.Native.Nat.{ℕ, ◌+◌, ◌≤◌, ◌<◌}
use mathlib.Core.Path.{◌≡◌}
use mathlib.Core.List.{List, [], ◌∷◌, ◌++◌, map}
use native.Mathlib.Omega.{arith}
use lib.ListN.{length, length-append}
use Rattle.model.specs.Model.{Job}
use Rattle.model.specs.Windows.{Rising, steps_of}
use Rattle.hall_model.specs.Hall.{Hall, Alike, AllAlike, Proper, sum_of}
use Rattle.hall_model.specs.Limits.{most_lines, Fits}
use Rattle.hall_jobs.specs.Hall.{Joins}

-- a number behind others in a sum
pub sum_more : {A : Type 0} (f : A → ℕ) (xs : List A) (x : A) → sum_of (map f (xs ++ (x ∷ []))) ≡ sum_of (map f xs) + f x
sum_more f [] x = omega arith
sum_more f (y ∷ xs) x = omega (arith, sum_more f xs x)

-- one line more that is alike
alike_more : (horizon : ℕ) (idles : List ℕ) (jobs : List Job) (job : Job) → AllAlike horizon idles jobs → Alike horizon idles job → AllAlike horizon idles (jobs ++ (job ∷ []))
alike_more horizon idles [] job a k = (k, tt)
alike_more horizon idles (j ∷ jobs) job a k = (a.0, alike_more horizon idles jobs job a.1 k)

module _ (call : ℕ) (job : Job) where
  -- the hall of these lines and the one behind them
  abbrev more : List Job → Hall
  more jobs = record { call = call; jobs = jobs ++ (job ∷ []) }

  -- its lines are alike
  pub proper_more : (jobs : List Job) → 1 ≤ length jobs → Proper (record { call = call; jobs = jobs }) → Rising 0 job.horizon (steps_of job.openings) → Joins jobs job → Proper (more jobs)
  proper_more [] l p r j = absurd (omega (arith, l))
  proper_more (first ∷ jobs) l p r j = (p.0, alike_more first.horizon first.idles jobs job p.1 (record { same_horizon = j.same_horizon; same_idles = j.same_idles; rising = r }))

  -- it is within the limits
  pub fits_more : (jobs : List Job) → length jobs < most_lines → Fits (record { call = call; jobs = jobs }) → Joins jobs job → Fits (more jobs)
  fits_more jobs l f j =
      let size = length-append jobs (job ∷ []) in
      record {
        some = omega (arith, f.some, size);
        few = omega (arith, l, size);
        fair = f.fair;
        parts = omega (arith, j.parts, sum_more (λ (k : Job). length k.parts) jobs job);
        openings = omega (arith, j.openings, sum_more (λ (k : Job). length k.openings) jobs job);
      }
