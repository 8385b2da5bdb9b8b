-- `verdict_to`: so far every part is kept, and the rest after them gives the verdict on all; the first that is late is the lowest.
use Prim.Native.Nat.{◌+◌, ◌<◌}
use mathlib.Core.Path.{◌≡◌, sym, ap, ap₂, ◌∙◌}
use mathlib.Core.List.{[]}
use native.Mathlib.Omega.{arith}
use lib.ListN.{get_or}
use lib.IntN.{ℤ}
use mir.Syntax.{w32}
use mir.Val.{to_z, of_z}
use Rattle.std.specs.Prelude.{Err}
use Rattle.std.proofs.lemmas.Result.{err_from_is_err_and}
use Rattle.model.specs.Verdict.{Gaps, keeps, ruled, no_part}
use Rattle.jobs.specs.Views.{job_of, part_of_lem, changes_for, plan_for}
use Rattle.jobs.proofs.Jobs.{part_count, part_at_lem, parts_taken, taken_at, valid_taken}
use Rattle.plan_lives.specs.Views.{model_verdict}
use Rattle.plan_lives.specs.Steps.{late_to_lem, verdict_to_lem}
use Rattle.clock.proofs.Ranges.{position_bits}
use Rattle.jobs.proofs.Plans.{enough_changes, changes_at_lem}
use Rattle.plan_lives.proofs.Ruled.{ruled_more, ruled_late, ruled_all}
use Rattle.plan_lives.proofs.lives.verdict_to.Goals as goal
use Rattle.plan_lives.proofs.lives.verdict_to.Goals.{After-kept}

pub late_to-followed-requires : goal.late_to-followed-requires
late_to-followed-requires c = let j = c.args.job.now.job in (
  c.requires.0,
  rw c.part_at-part.ensures (valid_taken j c.args.job.now.valid _ (omega arith)),
  rw (position_bits _ c.requires.1) c.requires.1,
)

-- what is said of the part at hand
here : (c : After-kept) → model_verdict c.kept.result
    ≡ ruled (c.loop-k.k + 1) (late_to_lem (job_of c.args.job.now.job) (to_z w32 (of_z w32 c.args.to)) (get_or (job_of c.args.job.now.job).parts c.loop-k.k no_part) (get_or (changes_for c.args.job.now.job c.args.plan.now.changes) c.loop-k.k [])) keeps
here c =
    let j = c.args.job.now.job in
    let k = c.loop-k.k in
    let t : k < j.part_count = omega (arith, c.loop-k-test.true, parts_taken j) in
    c.kept.ensures
    ∙ ap (λ (g : Gaps). ruled (k + 1) g keeps)
    (c.late_to-followed.ensures.0
    ∙ ap₂ (late_to_lem (job_of j) (to_z w32 (of_z w32 c.args.to))) (ap (part_of_lem j.opening_count) (c.part_at-part.ensures ∙ taken_at j k c.loop-k-test.true) ∙ sym (part_at_lem j k t)) (sym (changes_at_lem j.opening_count j.part_count c.args.plan.now.changes (enough_changes j c.args.plan.now) k t)))

pub returns-in_err-kept : goal.returns-in_err-kept
returns-in_err-kept c =
    let l = c.loop-k in
    let j = c.args.job.now.job in
    let late = c.in_err-kept.field-0.0 in
    let p = err_from_is_err_and c.from_residual.result c.from_residual.ensures.1 in
    rw (p.1, p.2)
    (ruled_late (late_to_lem (job_of j) (to_z w32 (of_z w32 c.args.to))) (job_of j).parts (changes_for j c.args.plan.now.changes) (l.k + 1) late.part late.due
    (ruled_more (late_to_lem (job_of j) (to_z w32 (of_z w32 c.args.to))) (job_of j).parts (changes_for j c.args.plan.now.changes) l.k keeps (model_verdict (Err late)) (omega (arith, c.loop-k-test.true, part_count j, parts_taken j))
    (sym (ap model_verdict c.in_err-kept.was) ∙ here (goal.at.returns-in_err-kept c).After-kept) l.invariant)
    ∙ ap (λ (e : ℤ). verdict_to_lem (job_of j) e (plan_for j c.args.plan.now)) (position_bits c.args.to c.requires.1))

pub loop-k-preserved : goal.loop-k-preserved
loop-k-preserved c =
    let l = c.loop-k in
    let j = c.args.job.now.job in
    ruled_more (late_to_lem (job_of j) (to_z w32 (of_z w32 c.args.to))) (job_of j).parts (changes_for j c.args.plan.now.changes) l.k keeps keeps (omega (arith, c.loop-k-test.true, part_count j, parts_taken j))
    (sym (ap model_verdict c.in_ok-kept.was) ∙ here (goal.at.loop-k-preserved c).After-kept) l.invariant

pub returns : goal.returns
returns c = let j = c.args.job.now.job in
    ruled_all (late_to_lem (job_of j) (to_z w32 (of_z w32 c.args.to))) (job_of j).parts (changes_for j c.args.plan.now.changes) c.loop-k.k keeps (omega (arith, part_count j, parts_taken j)) c.loop-k.invariant
    ∙ ap (λ (e : ℤ). verdict_to_lem (job_of j) e (plan_for j c.args.plan.now)) (position_bits c.args.to c.requires.1)
