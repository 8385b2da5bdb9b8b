-- How a plan is built up while it is read, stop by stop.
use Rattle.std.specs.Prelude.{ℕ, ◌+◌, ◌≡◌, List, [], Bool, false, cond, ◌||◌, length, get_or, eqb, Result, IfOk}
use Rattle.lines.specs.Reads.{Reads, seen}
use Rattle.lines.specs.declared.fault.Fault.{Fault}
use Rattle.lines.specs.declared.rows.Lines.{Lines}
use Rattle.model.specs.Model.{Plan, listed}
use Rattle.model.specs.Model as model
use Rattle.jobs.specs.declared.Job.{Job}
use Rattle.jobs.specs.Views.{job_of, changes_for, plan_for}
use Rattle.plan_grammar.specs.Grammar.{Visit, table, parts, visit, visits, plan_of}
use Rattle.plan_grammar.specs.Rendering.{step_at}
use Rattle.jobs.specs.declared.Changes.{Changes}
use Rattle.jobs.specs.declared.Plan as code

-- a set of openings, with those at a step
unfoldable pub with_step : model.Job → ℕ → List Bool → List Bool
with_step job step set = table (λ i. get_or set i false || eqb step (step_at job i)) (length job.openings)

-- the changes, with those of the parts ks at a step
unfoldable pub with_parts : model.Job → ℕ → List ℕ → List (List Bool) → List (List Bool)
with_parts job step ks sets = table (λ k. cond (listed ks (k + 1)) (with_step job step (get_or sets k [])) (get_or sets k [])) (length job.parts)

-- a plan, with one visit more
unfoldable pub with_visit : model.Job → Visit → Plan → Plan
with_visit job v plan = record { stops = with_step job v.step plan.stops; changes = with_parts job v.step v.parts plan.changes }

module _ (job : Job) (b a : Lines) where
  -- the lines of a stop's n parts were read, and where they have no fault the parts ks are marked
  pub record PartsRead (n step : ℕ) (cs : List Changes) (r : Result (List Changes) Fault) : Type 0 where
    pub ks : List ℕ
    pub reads : Reads (parts job.part_count n) b a (seen (λ _. ks) r)
    pub marks : IfOk r (λ ds. changes_for job ds ≡ with_parts (job_of job) step ks (changes_for job cs))

  -- the lines of a stop after the step before were read, and where they have no fault it is marked
  pub record StopRead (before : ℕ) (p : code.Plan) (r : Result (ℕ × code.Plan) Fault) : Type 0 where
    pub v : Visit
    pub reads : Reads (visit (job_of job) before) b a (seen (λ _. v) r)
    pub marks : IfOk r (λ q. (q.0 ≡ v.step) × (plan_for job q.1 ≡ with_visit (job_of job) v (plan_for job p)))

  -- the lines of n stops were read, and where they have no fault they make the plan
  pub record StopsRead (n : ℕ) (r : Result code.Plan Fault) : Type 0 where
    pub vs : List Visit
    pub reads : Reads (visits (job_of job) n) b a (seen (λ _. vs) r)
    pub makes : IfOk r (λ p. plan_for job p ≡ plan_of (job_of job) vs)
