-- A log's fault is number 1, 2, 3 or 9, and its line is one of the text's lines or the next (so it fits any counter). By the line `step`, and then as of the plan lines.
use Prim.Native.Nat.{ℕ, ◌-◌, ◌≤◌}
use mathlib.Core.Path.{◌≡◌}
use mathlib.Core.List.{List}
use mathlib.Core.Logic.{inl}
use native.Mathlib.Omega.{arith}
use Rattle.lines.specs.Parser.{refused}
use Rattle.lines.proofs.Numbered.{Numbers, row_numbers, bind_numbers, return_numbers, refused_fault}
use Rattle.model.specs.Model.{Job}
use Rattle.plan_grammar.specs.Grammar.{max_bytes}
use Rattle.plan_grammar.specs.Faults.{PlanFault}
use Rattle.plan_grammar.proofs.Numbered.{lines_numbers}
use Rattle.log_grammar.specs.Grammar.{past_job_lem, log_lines, read_log}

log_numbers : (job : Job) → Numbers PlanFault (log_lines job)
unfolding log_lines
log_numbers job =
    bind_numbers PlanFault _ _ (row_numbers PlanFault (inl (omega arith, omega arith)) (inl (omega arith, omega arith)) _ 1 (job.horizon - 2))
    (λ step. bind_numbers PlanFault _ _ (lines_numbers (past_job_lem job step)) (λ stated. return_numbers PlanFault _))

-- a refused log's fault is number 1, 2, 3 or 9, and its line is at most 32,769
pub log_fault : (job : Job) (s : List ℕ) (n l : ℕ) → read_log job s ≡ refused n l → PlanFault n × (l ≤ 32769)
log_fault job s n l e = refused_fault PlanFault max_bytes (log_lines job) (inl (omega arith, omega arith)) (inl (omega arith, omega arith)) (log_numbers job) s n l e
