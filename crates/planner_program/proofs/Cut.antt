-- All texts over the limit are answered alike: `over`. By number 1, which has no line.
use Prim.Native.Nat.{ℕ, ◌<◌}
use mathlib.Core.Path.{◌≡◌, sym, ap, ◌∙◌}
use mathlib.Core.List.{List}
use lib.ListN.{length}
use Rattle.fault_lines.specs.Fault.{fault_span_lem}
use Rattle.lines.specs.Parser.{Outcome}
use Rattle.lines.proofs.Parsing.{text_long}
use Rattle.job_grammar.specs.Grammar.{JobText, job_lines, meaning}
use Rattle.planning.specs.Plan.{on_job, plan_said}
use Rattle.whole_input.specs.declared.Text.TheVariants.{Job}
use Rattle.whole_input.specs.Limits.{limit_of}

-- two texts over the limit are answered alike
pub over : (walk : ℕ) (s t : List ℕ) → limit_of Job < length s → limit_of Job < length t → plan_said s walk ≡ plan_said t walk
unfolding plan_said fault_span_lem
over walk s t h k =
    ap (λ (x : Outcome JobText). on_job s walk (meaning x)) (sym (text_long (limit_of Job) job_lines s h))
    ∙ ap (λ (x : Outcome JobText). on_job t walk (meaning x)) (text_long (limit_of Job) job_lines t k)
