use Rattle.std.proofs.Common.{ℕ, ◌≡◌, length, get_or, take, List, Bool, false, ◌||◌, eqb}
use Rattle.model.specs.Model as model
use Rattle.model.specs.Model.{table}
use Rattle.jobs.specs.Views.{job_of}
use Rattle.plan_grammar.specs.Rendering.{step_at}
use Rattle.plan_stops.proofs.stops.mark.Given as goal

-- what the definition says of opening i
abbrev pub entry : model.Job → ℕ → List Bool → ℕ → Bool
entry job step set i = get_or set i false || eqb step (step_at job i)

abbrev pub invariant-loop-i : goal.invariant-loop-i
invariant-loop-i l = record {
  long : length l.marks ≡ 64;
  marked : take l.i l.marks ≡ table (entry (job_of l.job) l.step (take l.job.opening_count l.fn.set)) l.i;
}
