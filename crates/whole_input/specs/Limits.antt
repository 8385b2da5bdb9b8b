-- X7, E11.5, E14.3. The limit of each text that a program reads, as its grammar has it.
use Rattle.std.specs.Prelude.{ℕ}
use Rattle.job_grammar.specs.Grammar as job
use Rattle.plan_grammar.specs.Grammar as plan
use Rattle.hall_model.specs.Limits.{most_hall_bytes}
use Rattle.whole_input.specs.declared.Text.{Text}
use Rattle.whole_input.specs.declared.Text.TheVariants.{Job, Plan, Hall}

-- X7. the job's text, the plan's, and E14.3. the hall's, each by its own grammar
abbrev pub limit_of : Text → ℕ
limit_of Job = job.max_bytes
limit_of Plan = plan.max_bytes
limit_of Hall = most_hall_bytes
