-- `fees_of`: opening by opening, its fee if a stop is made there.
use Prim.Native.Nat.{ℕ, ◌<◌}
use mathlib.Core.Path.{◌≡◌, sym, ap₂, ◌∙◌}
use mathlib.Core.Bool.{Bool, false, cond}
use mathlib.Core.List.{map}
use native.Mathlib.Omega.{arith}
use lib.ListN.{get_or, take}
use lib.Seq.{get_or-take, length-take-le}
use Rattle.std.proofs.Common.{rules}
use Rattle.model.specs.Model.{fee_of}
use Rattle.model.proofs.Sums.{sum_same}
use Rattle.model.proofs.Totals.{sum_at_lem}
use Rattle.jobs.specs.Views.{job_of}
use Rattle.jobs.proofs.Jobs.{opening_at, seen_at, valid_opening}
use Rattle.plan_costs.proofs.Sums.{little}
use Rattle.plan_costs.proofs.costs.fees_of.Goals as goal

pub sum_of-requires-clause-small : goal.sum_of-requires-clause-small
sum_of-requires-clause-small c k x h said =
    let a = c.args in
    let e : x ≡ cond (get_or a.stops.now k false) (opening_at a.job.now.job k).fee 0 = search rules in
    rw e (little (get_or a.stops.now k false) (opening_at a.job.now.job k).fee (valid_opening a.job.now.job c.args.job.now.valid k h).fee)

pub returns : goal.returns
returns c =
    let a = c.args in
    let n = a.job.now.job.opening_count in
    let f : ℕ → ℕ = λ k. cond (get_or a.stops.now k false) (opening_at a.job.now.job k).fee 0 in
    c.sum_of.ensures f (λ k x h said. search rules)
    ∙ sym (sum_at_lem (map fee_of (job_of a.job.now.job).openings) (take n a.stops.now) n (length-take-le n a.stops.now (omega (arith, a.job.now.job.few_openings)))
    ∙ sum_same n 0 _ f (λ k _ l. let h : k < n = omega arith in ap₂ (λ (b : Bool) (n : ℕ). cond b n 0) (get_or-take n a.stops.now k false h) (seen_at a.job.now.job fee_of 0 k h)))
