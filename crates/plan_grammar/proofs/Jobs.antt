-- The step of a job's opening: by index, in the struct and in the model's job.
use Prim.Native.Nat.{ℕ, ◌<◌}
use mathlib.Core.Path.{◌≡◌, ap, ◌∙◌}
use Rattle.model.specs.Model as model
use Rattle.jobs.specs.declared.Job.{Job}
use Rattle.jobs.specs.Views.{job_of}
use Rattle.jobs.proofs.Jobs.{opening_at, opening_at_lem}
use Rattle.plan_grammar.specs.Rendering.{step_at}
use Rattle.plan_grammar.proofs.Steps.{step_is}

module _ (job : Job) where
  -- the step of opening i in the model's job is that of the struct's opening i
  pub step_at_lem : (i : ℕ) → i < job.opening_count → step_at (job_of job) i ≡ (opening_at job i).step
  step_at_lem i h = step_is (job_of job) i ∙ ap (λ (o : model.Opening). o.step) (opening_at_lem job i h)
