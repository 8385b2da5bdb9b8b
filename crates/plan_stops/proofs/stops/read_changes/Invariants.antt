use Rattle.std.proofs.Common.{◌≡◌, length, List, ℕ}
use Rattle.lines.specs.declared.rows.Lines.{Lines}
use Rattle.lines.proofs.Steps.{Chained}
use Rattle.jobs.specs.declared.Job.{Job}
use Rattle.jobs.specs.declared.Changes.{Changes}
use Rattle.jobs.specs.Views.{job_of, changes_for}
use Rattle.plan_grammar.specs.Grammar.{part}
use Rattle.plan_stops.specs.Marks.{with_parts}
use Rattle.plan_stops.proofs.stops.read_changes.Given as goal

-- i of n parts were read, and are marked
pub record Reading (job : Job) (n i step before : ℕ) (were marks : List Changes) (b m : Lines) : Type 0 where
  pub long : length marks ≡ 16
  pub ks : List ℕ
  pub read : Chained (part job.part_count) (λ _ k. k) n i ks 0 before b m
  pub marked : changes_for job marks ≡ with_parts (job_of job) step ks (changes_for job were)

abbrev pub invariant-loop : goal.invariant-loop
invariant-loop l = Reading l.job l.n l.counter l.step l.before l.initial.marks l.marks l.initial.lines l.lines
