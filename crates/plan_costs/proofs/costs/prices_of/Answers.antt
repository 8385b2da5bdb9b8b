-- `prices_of`: part by part, the prices of its changes.
use Prim.Native.Nat.{ℕ}
use mathlib.Core.Path.{sym, ap, ap₂, ◌∙◌}
use mathlib.Core.Bool.{Bool}
use mathlib.Core.List.{List, []}
use native.Mathlib.Omega.{arith}
use lib.ListN.{get_or, take}
use Rattle.model.specs.Model as model
use Rattle.model.specs.Model.{sum, sum_at}
use Rattle.model.specs.Verdict.{no_part}
use Rattle.jobs.specs.Views.{job_of, part_of_lem, blank_changes, changes_for}
use Rattle.jobs.proofs.Jobs.{part_at, part_count, part_at_lem, valid_part}
use Rattle.jobs.proofs.Plans.{enough_changes, changes_at_lem}
use Rattle.plan_costs.proofs.Prices.{part_most, prices_sum}
use Rattle.plan_costs.proofs.costs.prices_of.Goals as goal

pub sum_of-requires-clause-asked : goal.sum_of-requires-clause-asked
sum_of-requires-clause-asked c k h = let j = c.args.job.now.job in
    (omega (arith, h, j.few_parts), j.few_openings, valid_part j c.args.job.now.valid k h)

pub sum_of-requires-clause-small : goal.sum_of-requires-clause-small
sum_of-requires-clause-small c k x h said = let j = c.args.job.now.job in
    let n = j.opening_count in
    rw said (part_most n j.few_openings (part_of_lem n (part_at j k)) (take n (get_or c.args.plan.now.changes k blank_changes).at) (valid_part j c.args.job.now.valid k h))

pub returns : goal.returns
returns c =
    let j = c.args.job.now.job in
    let n = j.opening_count in
    let ps = (job_of j).parts in
    let cs = changes_for j c.args.plan.now.changes in
    let f : ℕ → ℕ = λ k. sum_at (get_or ps k no_part).prices (get_or cs k []) in
    c.sum_of.ensures f
    (λ k x h said. said
    ∙ ap₂ (λ (p : model.Part) (y : List Bool). sum_at p.prices y) (sym (part_at_lem j k h)) (sym (changes_at_lem n j.part_count c.args.plan.now.changes (enough_changes j c.args.plan.now) k h)))
    ∙ ap (λ (m : ℕ). sum 0 m f) (sym (part_count j))
    ∙ sym (prices_sum ps cs)
