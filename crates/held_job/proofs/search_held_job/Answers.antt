-- `search_held_job`: the arrays hold the job, so what the search answers for every job that they hold it answers for this one.
use Prim.Native.Nat.{ℕ}
use mathlib.Core.Path.{sym, ap, ap₂, ◌∙◌}
use native.Mathlib.Omega.{arith}
use Rattle.model.specs.Promise.{answer_of}
use Rattle.jobs.specs.Views.{job_of}
use Rattle.jobs.proofs.Jobs.{opening_count_lem2, part_count}
use Rattle.search.specs.Found.{said_in}
use Rattle.held_job.proofs.search_held_job.Goals as goal

pub search_held-requires : goal.search_held-requires
search_held-requires c = omega (arith, c.ranges.limit)

pub returns : goal.returns
returns c = let j = c.args.job.now.job in
    ap₂ (λ (n m : ℕ). said_in n m c.search_held.result) (sym (opening_count_lem2 j)) (sym (part_count j))
    ∙ c.search_held.ensures (job_of j) c.held.ensures
    ∙ ap (answer_of (job_of j)) c.from.ensures
