-- `counted_job`: a job with a holder is refused, and any other counted. By the test.
use Prim.Native.Nat.{ℕ}
use mathlib.Core.Path.{◌≡◌, refl, sym, ap, ◌∙◌}
use Rattle.longest_walk.specs.Count.{open_count}
use Rattle.jobs.specs.Views.{job_of}
use Rattle.counting.specs.Count.{plain_lem, count_given, counted_job_lem}
use Rattle.counting.proofs.counted_job.Goals as goal

pub returns-then-has_holder : goal.returns-then-has_holder
unfolding counted_job_lem
returns-then-has_holder c = let e = sym c.has_holder.ensures ∙ c.if-has_holder.true in
    let z : plain_lem 12 0 ≡ counted_job_lem (job_of c.args.job.now.job) = rw e refl in
    c.plain.ensures ∙ ap (λ (n : ℕ). plain_lem n 0) c.number.ensures ∙ z

pub returns : goal.returns
unfolding counted_job_lem
returns c = let e = sym c.has_holder.ensures ∙ c.if-has_holder.false in
    let z : count_given (open_count (job_of c.args.job.now.job)) ≡ counted_job_lem (job_of c.args.job.now.job) = rw e refl in
    c.plain-2.ensures ∙ ap count_given c.count_job.ensures ∙ z
