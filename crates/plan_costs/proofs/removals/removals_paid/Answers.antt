-- `removals_paid`: nothing where all removals sum up to 0, else the sum over the openings.
use mathlib.Core.Path.{◌≡◌, sym, subst, ◌∙◌}
use mathlib.Core.List.{map}
use native.Mathlib.Omega.{arith}
use lib.ListN.{length, take, length-map}
use Rattle.model.specs.Model.{removal_of_lem}
use Rattle.jobs.specs.Views.{job_of, changes_for}
use Rattle.jobs.proofs.Jobs.{opening_count_lem2, part_count}
use Rattle.coming_out.proofs.Rows.{row-take}
use Rattle.plan_costs.specs.Dearest.{Cheap}
use Rattle.plan_costs.proofs.Sums.{cheap_removals}
use Rattle.plan_costs.proofs.Removed.{nothing_paid}
use Rattle.plan_costs.proofs.removals.removals_paid.Goals as goal
use Rattle.plan_costs.proofs.removals.removals_paid.Goals.{After-removals_of-removals, Start}

parts : (s : Start) → length (job_of s.args.job.now.job).parts ≡ s.args.job.now.job.part_count
parts s = part_count s.args.job.now.job

-- no removal is above a million
cheap : (c : After-removals_of-removals) → Cheap (take c.args.job.now.job.part_count c.removals_of-removals.result)
cheap c =
    let job = job_of c.args.job.now.job in
    subst Cheap
    (sym (row-take 0 (map removal_of_lem job.parts) c.removals_of-removals.result c.args.job.now.job.part_count (length-map job.parts removal_of_lem ∙ parts c.before) c.args.job.now.job.few_parts c.removals_of-removals.ensures))
    (cheap_removals (length job.openings) job.parts c.args.job.now.valid.parts)

pub sum_at-requires : goal.sum_at-requires
sum_at-requires c = let few = c.args.job.now.job.few_parts in
    (omega (arith, few), omega (arith, few, c.removals_of-removals.ensures.size), omega (arith, few), cheap (goal.at.sum_at-requires c).After-removals_of-removals)

pub returns-then-sum_at-eq0 : goal.returns-then-sum_at-eq0
returns-then-sum_at-eq0 c = let job = c.args.job.now.job in
    sym (nothing_paid (job_of job) (changes_for job c.args.plan.now.changes) job.part_count c.removals_of-removals.result (parts (goal.at.returns-then-sum_at-eq0 c).Start) c.args.job.now.job.few_parts c.removals_of-removals.ensures (sym c.sum_at.ensures ∙ c.if-sum_at-eq0.true))

pub removals_at-requires : goal.removals_at-requires
removals_at-requires c = (c.args.job.now.job.few_parts, c.args.job.now.job.few_openings, cheap (goal.at.removals_at-requires c).After-removals_of-removals)

pub returns : goal.returns
returns c = let job = job_of c.args.job.now.job in
    c.removals_at.ensures job (parts (goal.at.returns c).Start) (opening_count_lem2 c.args.job.now.job) (c.come_out-outs.ensures job c.holders_of-holders.ensures) c.removals_of-removals.ensures
