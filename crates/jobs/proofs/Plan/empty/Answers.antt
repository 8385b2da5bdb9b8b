-- `Plan::empty` meets its contract: the first n of 64 equal values are n of them.
use Prim.Native.Nat.{ℕ, ◌≤◌}
use mathlib.Core.Bool.{false}
use mathlib.Core.Path.{◌≡◌}
use lib.ListN.{replicate}
use Rattle.jobs.specs.declared.Changes.{Changes}
use Rattle.jobs.specs.Views.{changes_of}
use Rattle.base.proofs.Lists.{take-replicate, map-replicate}
use Rattle.jobs.proofs.Plan.empty.Goals as goal

-- the row of a part that is never changed
abbrev none : Changes
none = record { at = replicate 64 false }

rows : (n m : ℕ) → n ≤ 64 → m ≤ 16 → changes_of n m (replicate 16 none) ≡ replicate m (replicate n false)
rows n m h k = rw (take-replicate m 16 none k, map-replicate, take-replicate n 64 false h)

pub returns : goal.returns
returns c n m h k = λ i. record { stops = take-replicate n 64 false h i; changes = rows n m h k i }
