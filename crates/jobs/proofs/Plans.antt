-- The change sets that a plan's struct holds: there are enough for a job's parts (`enough_changes`), and the first of them are those of its parts (`changes_size`, `changes_at_lem`).
use Prim.Native.Nat.{ℕ, ◌≤◌, ◌<◌}
use mathlib.Core.Path.{◌≡◌}
use mathlib.Core.List.{List, []}
use native.Mathlib.Omega.{arith}
use lib.ListN.{length, get_or, take}
use Rattle.jobs.specs.Views.{blank_changes, changes_of}
use Rattle.jobs.specs.declared.Job.{Job}
use Rattle.jobs.specs.declared.Changes.{Changes}
use Rattle.jobs.specs.declared.Plan.{Plan}
use Rattle.base.proofs.Lists.{firsts_size, firsts_at}

-- a set for each part that a job counts
pub enough_changes : (j : Job) (p : Plan) → j.part_count ≤ length p.changes
enough_changes j p = omega (arith, j.few_parts, p.long_changes)

module _ (n m : ℕ) (cs : List Changes) (long : m ≤ length cs) where
  pub changes_size : length (changes_of n m cs) ≡ m
  changes_size = firsts_size (λ (c : Changes). take n c.at) cs m long

  pub changes_at_lem : (k : ℕ) → k < m → get_or (changes_of n m cs) k [] ≡ take n (get_or cs k blank_changes).at
  changes_at_lem k h = firsts_at (λ (c : Changes). take n c.at) cs m long k blank_changes [] h
