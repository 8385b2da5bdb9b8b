use Rattle.std.proofs.Common.{◌≡◌, List, ℕ}
use Rattle.lines.specs.declared.rows.Lines.{Lines}
use Rattle.lines.proofs.Steps.{Chained}
use Rattle.jobs.specs.declared.Job.{Job}
use Rattle.jobs.specs.declared.Plan.{Plan}
use Rattle.jobs.specs.Views.{job_of, plan_for}
use Rattle.plan_grammar.specs.Grammar.{Visit, visit, plan_of}
use Rattle.plan_stops.proofs.stops.read_visits.Given as goal

-- i of n visits were read, and make the plan so far
pub record Reading (job : Job) (n i before : ℕ) (plan : Plan) (b m : Lines) : Type 0 where
  pub vs : List Visit
  pub read : Chained (visit (job_of job)) (λ _ v. v.step) n i vs 0 before b m
  pub makes : plan_for job plan ≡ plan_of (job_of job) vs

abbrev pub invariant-loop : goal.invariant-loop
invariant-loop l = Reading l.job l.n l.counter l.before l.plan l.initial.lines l.lines
