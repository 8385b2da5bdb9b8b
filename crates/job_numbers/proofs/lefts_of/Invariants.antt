use Prim.Native.Nat.{ℕ, ◌<◌}
use mathlib.Core.Path.{◌≡◌}
use lib.ListN.{length, get_or}
use Rattle.part_records.specs.Records.{record_at}
use Rattle.job_numbers.proofs.lefts_of.Given as goal

abbrev pub invariant-loop-q : goal.invariant-loop-q
invariant-loop-q l = (length l.lefts ≡ 16) × ((k : ℕ) → k < l.q → get_or l.lefts k 0 ≡ (record_at l.job.parts k).left)
