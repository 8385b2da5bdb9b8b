-- `count_stops` meets its contract. The invariant: so many of the openings so far are stops.
use Prim.Native.Nat.{ℕ, ◌+◌, ◌≤◌}
use mathlib.Core.Path.{◌≡◌, refl, sym, ap, ap₂, ◌∙◌}
use mathlib.Core.Bool.{Bool, false, cond}
use native.Mathlib.Omega.{arith}
use lib.ListN.{length}
use lib.Seq.{get_or-take}
use Rattle.base.specs.Joined.{joined}
use Rattle.jobs.specs.Views.{job_of, plan_for}
use Rattle.base.specs.Chosen.{chosen}
use Rattle.plan_grammar.specs.Rendering.{visit_at}
use Rattle.jobs.proofs.Jobs.{opening_count_lem2}
use Rattle.base.proofs.Chosen.{chosen_count, chosen_few, chosen-length}
use Rattle.plan_text.proofs.Chosen.{stops_are}
use Rattle.base.proofs.Bools.{bit_of, bit_most}
use Rattle.plan_writing.proofs.count_stops.Goals as goal
use Rattle.plan_writing.proofs.count_stops.Invariants.{stop}

pub loop-stop-init : goal.loop-stop-init
unfolding chosen joined
loop-stop-init c = refl

pub overflow_add-count : goal.overflow_add-count
overflow_add-count c = let one : c.from-count.result ≤ 1 = rw c.from-count.ensures (bit_most _) in
    omega (arith, one, chosen_few (stop c.args.plan.now) (λ (j : ℕ). j) c.loop-stop.stop-index)

pub loop-stop-preserved : goal.loop-stop-preserved
loop-stop-preserved c = let l = c.loop-stop in
    let plan = c.args.plan.now in
    let same = get_or-take c.args.job.now.opening_count plan.stops l.stop-index false (omega arith) in
    let one = c.from-count.ensures ∙ bit_of _ ∙ ap (λ (b : Bool). cond b 1 0) same in
    ap₂ (λ (n m : ℕ). n + m) l.invariant one ∙ sym (chosen_count (stop plan) (λ (j : ℕ). j) l.stop-index)

pub returns : goal.returns
returns c = let job = c.args.job.now in
    let plan = c.args.plan.now in
    let n = job.opening_count in
    let end : c.loop-stop.stop-index ≡ n = omega arith in
    c.loop-stop.invariant ∙ ap (λ (k : ℕ). length (chosen (stop plan) (λ (j : ℕ). j) k)) end
    ∙ chosen-length (stop plan) (λ (j : ℕ). j) (visit_at (job_of job) (plan_for job plan)) n
    ∙ sym (ap length (stops_are (job_of job) n job.part_count plan (opening_count_lem2 job)))
