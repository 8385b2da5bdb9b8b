-- The lines of a struct by their places: what stands at a place below the count is the line's job. By the laws of lists, place by place.
use Prim.Native.Nat.{ℕ, zero, suc, ◌≤◌, ◌<◌}
use mathlib.Core.Path.{◌≡◌, refl, sym, ap, subst, ◌∙◌}
use mathlib.Core.List.{List, [], ◌∷◌}
use native.Mathlib.Omega.{arith}
use lib.ListN.{length, get_or}
use Rattle.model.specs.Model.{Job}
use Rattle.jobs.specs.declared.accepted.Accepted.{Accepted}
use Rattle.base.proofs.Lists.{firsts_size, firsts_at}
use Rattle.hall_model.specs.Hall.{horizon_of, Placed}
use Rattle.hall_jobs.specs.Hall.{line_of_lem}
use Rattle.hall_jobs.specs.declared.HallJobs.{HallJobs}
use Rattle.hall_jobs.specs.Views.{jobs_of}

-- a line's place is below the count of lines, and the line stands there
pub placed_get : (jobs : List Job) (d : ℕ) (job x : Job) → Placed jobs d job → (d < length jobs) × (get_or jobs d x ≡ job)
placed_get [] d job x at = absurd at
placed_get (j ∷ jobs) zero job x at = (omega arith, at)
placed_get (j ∷ jobs) (suc d) job x at = let r = placed_get jobs d job x at in (omega (arith, r.0), r.1)

-- what stands at a place below that is a line there
pub placed_there : (jobs : List Job) (d : ℕ) (x : Job) → d < length jobs → Placed jobs d (get_or jobs d x)
placed_there [] d x l = absurd (omega (arith, l))
placed_there (j ∷ jobs) zero x l = refl
placed_there (j ∷ jobs) (suc d) x l = placed_there jobs d x (omega (arith, l))

-- the horizon of some lines
first_horizon : (jobs : List Job) (x : Job) → 1 ≤ length jobs → horizon_of jobs ≡ (get_or jobs 0 x).horizon
first_horizon [] x l = absurd (omega (arith, l))
first_horizon (j ∷ jobs) x l = refl

module _ (h : HallJobs) where
  -- the count is how many lines there are
  pub lines_count : length (jobs_of h) ≡ h.count
  lines_count = firsts_size line_of_lem h.jobs h.count (omega (arith, h.few, h.long))

  -- a line's place is below it
  pub line_below : (d : ℕ) (job : Job) → Placed (jobs_of h) d job → d < h.count
  line_below d job at = omega (arith, (placed_get (jobs_of h) d job job at).0, lines_count)

  module _ (d : ℕ) (a : Accepted) where
    here : d < h.count → get_or (jobs_of h) d (line_of_lem a) ≡ line_of_lem (get_or h.jobs d a)
    here = firsts_at line_of_lem h.jobs h.count (omega (arith, h.few, h.long)) d a (line_of_lem a)

    -- a line at a place is what stands there
    pub line_is : (job : Job) → Placed (jobs_of h) d job → line_of_lem (get_or h.jobs d a) ≡ job
    line_is job at = sym (here (line_below d job at)) ∙ (placed_get (jobs_of h) d job (line_of_lem a) at).1

    -- and what stands at a place below the count is a line
    pub line_there : d < h.count → Placed (jobs_of h) d (line_of_lem (get_or h.jobs d a))
    line_there l = subst (Placed (jobs_of h) d) (here l) (placed_there (jobs_of h) d (line_of_lem a) (omega (arith, l, lines_count)))

  -- the lines' horizon is that of the first
  pub horizon_is : (a : Accepted) → horizon_of (jobs_of h) ≡ (get_or h.jobs 0 a).job.horizon
  horizon_is a =
      let some : 1 ≤ length (jobs_of h) = h.fits.some in
      first_horizon (jobs_of h) (line_of_lem a) some ∙ ap (λ (job : Job). job.horizon) (here 0 a (omega (arith, some, lines_count)))
