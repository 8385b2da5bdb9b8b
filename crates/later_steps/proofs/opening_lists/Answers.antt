-- `opening_lists` takes the step and the fee of each opening.
use Prim.Native.Nat.{ℕ, ◌<◌}
use mathlib.Core.List.{List, map}
use mathlib.Core.Path.{◌≡◌, sym, ◌∙◌}
use native.Mathlib.Omega.{arith}
use borrow.Author.Rules.{rules}
use lib.ListN.{length, get_or, take}
use lib.Seq.{get_or-take, length-take-le, ext_get_or}
use Rattle.model.specs.Model as model
use Rattle.model.specs.Model.{fee_of}
use Rattle.jobs.specs.Views.{job_of, opening_of}
use Rattle.jobs.specs.declared.Job.{Job}
use Rattle.jobs.proofs.Jobs.{blank_opening, seen_count, seen_at}
use Rattle.later_steps.proofs.opening_lists.Goals as goal

abbrev step_of : model.Opening → ℕ
step_of o = o.step

-- one number of each opening, of those that count
numbers : (j : Job) (f : model.Opening → ℕ) (xs : List ℕ) → length xs ≡ 64 → ((i : ℕ) → i < 64 → get_or xs i 0 ≡ f (opening_of (get_or j.openings i blank_opening))) → take j.opening_count xs ≡ map f (job_of j).openings
numbers j f xs long each = let n = j.opening_count in
    let size = length-take-le n xs (omega (arith, long, j.few_openings)) in
    ext_get_or 0 (take n xs) (map f (job_of j).openings) (size ∙ sym (seen_count j f))
    (λ i h. let t : i < n = omega (arith, size, h) in get_or-take n xs i 0 t ∙ each i (omega (arith, t, j.few_openings)) ∙ sym (seen_at j f 0 i t))

pub returns : goal.returns
returns c = let j = c.args.job.now in (
  numbers j step_of c.map.result c.map.ensures.items.long (λ i h. let called = c.map.ensures.items.at i blank_opening 0 h in search rules),
  numbers j fee_of c.map-2.result c.map-2.ensures.items.long (λ i h. let called = c.map-2.ensures.items.at i blank_opening 0 h in search rules),
)
