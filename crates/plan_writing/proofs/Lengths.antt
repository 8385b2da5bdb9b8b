-- How long the lines of the code's plan for an accepted job can be.
use Prim.Native.Nat.{ℕ, ◌≤◌, ◌<◌}
use native.Mathlib.Omega.{arith}
use lib.ListN.{length, take, length-map, length-take}
use Rattle.jobs.specs.declared.accepted.Accepted.{Accepted}
use Rattle.jobs.specs.declared.Plan.{Plan}
use Rattle.jobs.specs.declared.Changes.{Changes}
use Rattle.jobs.specs.Views.{job_of, plan_for}
use Rattle.plan_grammar.specs.Rendering.{plan_lines_of}
use Rattle.plan_grammar.proofs.Lengths.{longest, valid_short}

-- the lines of the code's plan for an accepted job are no longer than `longest`
pub plan_short : (a : Accepted) (cost : ℕ) (p : Plan) → cost < 10000000000 → length (plan_lines_of (job_of a.job) cost (plan_for a.job p)) ≤ longest
plan_short a cost p small =
    let j = a.job in
    valid_short (job_of j) a.valid cost (plan_for j p) small
    (omega (arith, j.few_parts, length-map (take j.part_count p.changes) (λ (c : Changes). take j.opening_count c.at), length-take j.part_count p.changes))
