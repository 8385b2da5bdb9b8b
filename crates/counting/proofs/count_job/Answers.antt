-- `count_job`: the count by the least life and the least first life of the parts is the job's.
use Prim.Native.Nat.{ℕ, ◌≤◌}
use mathlib.Core.Path.{◌≡◌, sym, ap, subst, ◌∙◌}
use native.Mathlib.Omega.{arith}
use lib.ListN.{take, length-take}
use lib.IntN.{ℤ, pos, ◌-ℤ◌}
use mir.Syntax.{w32}
use mir.Val.{to_z, of_z}
use Rattle.model.specs.Model.{Part}
use Rattle.model.specs.Limits.{longest_life}
use Rattle.longest_walk.specs.Count.{least_life, least_left, count_for}
use Rattle.longest_walk.proofs.Entries.{count_least}
use Rattle.jobs.specs.Views.{job_of}
use Rattle.model.specs.LastYes.{mark_in}
use Rattle.base.specs.Signed.{Bits31}
use Rattle.base.proofs.Diff.{back}
use Rattle.clock.proofs.Ranges.{position_bits, life_bits}
use Rattle.clock.proofs.Places.{places_are}
use Rattle.counting.proofs.Lives.{least_most}
use Rattle.counting.proofs.Placing.{late_job, small_job, brief}
use Rattle.counting.proofs.count_job.Goals as goal
use Rattle.counting.proofs.count_job.Goals.{After-last_change, After-least_of-least}

-- the least lives are not above the longest
module _ (c : After-least_of-least) where
  life_most : c.least_of-least.result.life ≤ longest_life
  life_most = omega (arith, c.least_of-least.ensures.0, least_most (λ (part : Part). part.life) longest_life (job_of c.args.job.now.job).parts)

  left_most : c.least_of-least.result.left ≤ longest_life
  left_most = omega (arith, c.least_of-least.ensures.1, least_most (λ (part : Part). part.left) longest_life (job_of c.args.job.now.job).parts)

pub last_change-requires : goal.last_change-requires
last_change-requires c = (life_most (goal.at.last_change-requires c).After-least_of-least, left_most (goal.at.last_change-requires c).After-least_of-least)

pub overflow_cast-gaps : goal.overflow_cast-gaps
overflow_cast-gaps c = omega (arith, life_most (goal.at.overflow_cast-gaps c).After-least_of-least)

-- the change before, as the code holds it
first : (c : After-last_change) → to_z w32 (of_z w32 c.last_change.result) ≡ pos c.least_of-least.result.left -ℤ pos c.least_of-least.result.life
first c = back c.last_change.result c.last_change.type_inv ∙ c.last_change.ensures

pub invariant_of-gaps : goal.invariant_of-gaps
invariant_of-gaps c = let j = c.args.job.now.job in
    let p = c.positions_of-placed in
    let least = (goal.at.invariant_of-gaps c).After-least_of-least in
    let small = small_job j p.result p.ensures c.least_of-least.result.life c.least_of-least.result.left (life_most least) (left_most least) in
    record {
      few = omega (arith, j.few_openings, length-take j.opening_count p.result.at);
      late = rw (position_bits p.result.end p.ensures.end_range) (late_job j p.result p.ensures);
      small = subst (λ (z : ℤ). (k : ℕ) → Bits31 (mark_in z (take j.opening_count p.result.at) k)) (sym (first (goal.at.invariant_of-gaps c).After-last_change)) small;
    }

pub returns : goal.returns
returns c =
    let j = c.args.job.now.job in
    let p = c.positions_of-placed in
    let ensured = c.least_of-least.ensures in
    let life : to_z w32 c.least_of-least.result.life ≡ pos (least_life (job_of j)) = life_bits _ (life_most (goal.at.returns c).After-least_of-least) ∙ ap pos ensured.0 in
    let before : to_z w32 (of_z w32 c.last_change.result) ≡ pos (least_left (job_of j)) -ℤ pos (least_life (job_of j)) = first (goal.at.returns c).After-last_change ∙ (λ i. pos (ensured.1 i) -ℤ pos (ensured.0 i)) in
    c.count.ensures
    ∙ (λ i. count_for (life i) ((position_bits p.result.end p.ensures.end_range ∙ p.ensures.end) i) (before i) (places_are j p.result p.ensures i))
    ∙ sym (count_least (job_of j) (brief (job_of j) c.args.job.now.valid))
