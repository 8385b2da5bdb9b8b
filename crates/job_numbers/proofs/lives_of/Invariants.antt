use Prim.Native.Nat.{ℕ, ◌<◌}
use mathlib.Core.Path.{◌≡◌}
use lib.ListN.{length, get_or}
use Rattle.part_records.specs.Records.{record_at}
use Rattle.job_numbers.proofs.lives_of.Given as goal

abbrev pub invariant-loop-q : goal.invariant-loop-q
invariant-loop-q l = (length l.lives ≡ 16) × ((k : ℕ) → k < l.q → get_or l.lives k 0 ≡ (record_at l.job.parts k).life)
