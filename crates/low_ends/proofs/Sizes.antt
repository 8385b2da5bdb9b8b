-- Each part of an accepted job has as many prices as the job has openings (`prices_long`).
use Prim.Native.Nat.{ℕ, ◌<◌}
use mathlib.Core.Path.{◌≡◌}
use lib.ListN.{length, get_or, take}
use Rattle.jobs.specs.Views.{blank_part_lem}
use Rattle.jobs.specs.declared.accepted.Accepted.{Accepted}
use Rattle.jobs.proofs.Jobs.{valid_part}

-- an accepted job's part has a price for each opening
pub prices_long : (a : Accepted) (q : ℕ) → q < a.job.part_count → length (take a.job.opening_count (get_or a.job.parts q blank_part_lem).prices) ≡ a.job.opening_count
prices_long a q h = (valid_part a.job a.valid q h).priced
