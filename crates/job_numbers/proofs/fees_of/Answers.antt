-- `fees_of` takes the fee of each opening.
use Prim.Native.Nat.{ℕ, ◌<◌}
use mathlib.Core.List.{map}
use mathlib.Core.Path.{◌≡◌, sym, ◌∙◌}
use native.Mathlib.Omega.{arith}
use borrow.Author.Rules.{rules}
use lib.ListN.{get_or}
use Rattle.model.specs.Model.{fee_of}
use Rattle.jobs.specs.Views.{job_of}
use Rattle.jobs.proofs.Jobs.{blank_opening, seen_count, seen_at}
use Rattle.job_numbers.proofs.Records.{taken_is}
use Rattle.job_numbers.proofs.fees_of.Goals as goal

pub returns : goal.returns
returns c = let j = c.args.job.now in
    let each : (i : ℕ) → i < 64 → get_or c.map.result i 0 ≡ (get_or j.openings i blank_opening).fee = λ i h. let called = c.map.ensures.items.at i blank_opening 0 h in search rules in
    taken_is j.opening_count c.map.result (map fee_of (job_of j).openings) (omega (arith, c.map.ensures.items.long, j.few_openings)) (seen_count j fee_of)
    (λ i h. each i (omega (arith, j.few_openings)) ∙ sym (seen_at j fee_of 0 i h))
