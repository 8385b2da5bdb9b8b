-- The marks and places of an accepted job are small, and its parts' lives are not above the longest. By the ranges of positions, and what is known of an accepted job.
use Prim.Native.Nat.{ℕ, zero, suc, ◌≤◌, ◌<◌}
use mathlib.Core.Path.{sym, subst}
use mathlib.Core.List.{List, [], ◌∷◌}
use native.Mathlib.Omega.{arith}
use native.Mathlib.Decide.{dec_lt}
use lib.ListN.{length, get_or, take, get_or-eq_default}
use lib.Seq.{get_or-take}
use lib.IntN.{ℤ, pos, ◌-ℤ◌}
use Rattle.model.specs.Model as model
use Rattle.model.specs.Limits.{longest_life}
use Rattle.longest_walk.proofs.Entries.{Brief}
use Rattle.jobs.specs.declared.Job.{Job}
use Rattle.jobs.specs.Views.{job_of}
use Rattle.base.specs.Each.{All}
use Rattle.jobs.specs.Valid.{ValidPart, ValidJob}
use Rattle.jobs.proofs.Jobs.{opening_count_lem2}
use Rattle.clock.specs.Placed.{Placed}
use Rattle.clock.specs.declared.positions.Positions.{Positions}
use Rattle.clock.proofs.Ranges.{position_small, begins_first, before_small}
use Rattle.clock.proofs.Places.{place_count}
use Rattle.model.specs.LastYes.{mark_in}
use Rattle.base.specs.Signed.{Bits31}

module _ (j : Job) (p : Positions) (placed : Placed (job_of j) p) where
  abbrev ss : List ℤ
  ss = take j.opening_count p.at

  -- the end of an accepted job is small
  pub late_job : Bits31 p.end
  late_job = omega (arith, position_small p.end placed.end_range)

  -- its marks are small, for any life and first life in range
  pub small_job : (life left : ℕ) → life ≤ longest_life → left ≤ longest_life → (k : ℕ) → Bits31 (mark_in (pos left -ℤ pos life) ss k)
  small_job life left h g = marks
    where
      by : (i : ℕ) → Dec (i < j.opening_count) → Bits31 (get_or ss i (pos 0))
      by i (yes l) =
          let small = position_small (get_or p.at i (pos 0)) (placed.ranges i (rw (opening_count_lem2 j) l)) in
          subst Bits31 (sym (get_or-take j.opening_count p.at i (pos 0) l)) (omega (arith, small))
      by i (no l) = subst Bits31 (sym (get_or-eq_default ss (pos 0) {n = i} (omega (arith, l, place_count j p placed)))) (omega arith)

      marks : (k : ℕ) → Bits31 (mark_in (pos left -ℤ pos life) ss k)
      marks zero = omega (arith, before_small life (pos left -ℤ pos life) h (begins_first life left g))
      marks (suc i) = by i (dec_lt i j.opening_count)

-- a valid job has a first part, whose life and first life are not above the longest
pub brief : (job : model.Job) → ValidJob job → Brief job job.parts
brief job v = go job.parts v.some_part v.parts
  where
    go : (parts : List model.Part) → 1 ≤ length parts → All (ValidPart (length job.openings)) parts → Brief job parts
    go [] h a = absurd (omega (arith, h))
    go (part ∷ parts) h a = (a.0.life_high, omega (arith, a.0.left_high, a.0.life_high))
