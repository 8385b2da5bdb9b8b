-- `search_optimum`: each way out is what one of the walks is worth.
use Prim.Native.Nat.{ℕ}
use mathlib.Core.Path.{sym, ap₂, subst}
use mathlib.Core.Bool.{Bool, false}
use Rattle.std.specs.Prelude.{Some}
use Rattle.std.proofs.lemmas.Bool.{not-true, not-false}
use Rattle.branch.specs.declared.Bound.{Bound}
use Rattle.branch.specs.declared.Bound.TheVariants.{Sum}
use Rattle.model.specs.Model.{Plan}
use Rattle.model.specs.Promise.{BestPlan, Any}
use Rattle.jobs.specs.Views.{job_of}
use Rattle.jobs.proofs.Jobs.{opening_count_lem2, part_count}
use Rattle.search_state.specs.Answer.{answer_with}
use Rattle.search.specs.Found.{plan_found, said_in}
use Rattle.share_search.specs.Sought.{Sought}
use Rattle.optimum_search.specs.Ends.{Ends}
use Rattle.optimum_search.proofs.Endings.{counted, nothing, settled, begun, passed, cut_short}
use Rattle.optimum_search.proofs.search_optimum.Goals as goal
use Rattle.optimum_search.proofs.search_optimum.Goals.{After-search_by_shares-shared}

pub returns-in_default : goal.returns-in_default
returns-in_default c = let j = c.args.job.now.job in
    nothing (job_of j) j.opening_count j.part_count c.search_job-first.result c.min.result c.search_job-first.ensures c.args.limit c.in_default.is

pub returns-then-not-first : goal.returns-then-not-first
returns-then-not-first c = let j = c.args.job.now.job in
    settled (job_of j) j.opening_count j.part_count c.search_job-first.result c.min.result c.search_job-first.ensures c.args.limit c.in-Sum.floor c.in-Sum.is (not-true _ c.if-not-first.true)

-- what the walks by shares find, above the first walk's floor
shared : (c : After-search_by_shares-shared) → Sought (job_of c.args.job.now.job) c.in-Sum.floor c.search_job-first.result.cost c.args.limit c.search_by_shares-shared.result
shared c = let j = c.args.job.now.job in
    c.search_by_shares-shared.ensures
    (begun (job_of j) j.opening_count j.part_count c.search_job-first.result c.min.result c.search_job-first.ensures c.args.limit c.in-Sum.floor c.in-Sum.is (not-false _ c.if-not-first.false))

pub returns-in-Some : goal.returns-in-Some
returns-in-Some c = let j = c.args.job.now.job in
    let r = c.search_by_shares-shared.result in
    let x = shared (goal.at.returns-in-Some c).After-search_by_shares-shared in
    subst (λ (b : Bound). Ends (job_of j) c.args.limit (said_in j.opening_count j.part_count (record { count = r.count; over = false; cost = Some c.in-Some.cost; floor = b; plan = r.plan }))) (sym x.floor)
    (subst (λ (p : Plan). BestPlan (job_of j) Any c.in-Some.cost p) (ap₂ (λ (n m : ℕ). plan_found n m r) (opening_count_lem2 j) (part_count j)) (x.plan_found_lem c.in-Some.cost c.in-Some.is))

pub returns-then-shared : goal.returns-then-shared
returns-then-shared c = let j = c.args.job.now.job in
    let r = c.search_job-first.result in
    let x = shared (goal.at.returns-then-shared c).After-search_by_shares-shared in
    let over = not-false _ c.if-not-first.false in
    subst (λ (b : Bound). Ends (job_of j) c.args.limit (said_in j.opening_count j.part_count (record { count = r.count; over = r.over; cost = r.cost; floor = b; plan = r.plan }))) (sym x.floor)
    (subst (λ (o : Bool). Ends (job_of j) c.args.limit (answer_with (plan_found j.opening_count j.part_count r) r.count (Sum x.low) o r.cost)) (sym over)
    (cut_short (job_of j) j.opening_count j.part_count r c.min.result c.search_job-first.ensures c.args.limit c.in-Sum.floor c.in-Sum.is c.min.ensures x.low x.none_under x.risen (x.longer c.if-shared.true) over))

pub returns : goal.returns
returns c = let j = c.args.job.now.job in
    let x = shared (goal.at.returns c).After-search_by_shares-shared in
    let none = passed (job_of j) j.opening_count j.part_count c.search_job-first.result c.min.result c.search_job-first.ensures c.args.limit c.in-Sum.floor c.in-Sum.is x.low x.none_under
    (x.passed c.in_default-cost.is c.if-shared.false) (not-false _ c.if-not-first.false) in
    counted (job_of j) c.args.limit j.opening_count j.part_count c.search_job.result c.search_job.ensures none
