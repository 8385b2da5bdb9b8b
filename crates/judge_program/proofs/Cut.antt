-- The judge answers two texts as it answers what the buffers keep of them: `same`. By `cut`, for each: the text fits, or both are over the limit.
use Prim.Native.Nat.{ℕ, suc, ◌<◌}
use mathlib.Core.Path.{◌≡◌, refl, sym, ap, ◌∙◌}
use mathlib.Core.List.{List}
use mathlib.Core.Logic.{⊎_elim}
use lib.ListN.{length, take}
use Rattle.fault_lines.specs.Fault.{fault_span_lem}
use Rattle.lines.specs.Parser.{Outcome, accepted, refused}
use Rattle.lines.proofs.Parsing.{text_long}
use Rattle.job_grammar.specs.Grammar.{JobText, Given, job_lines, meaning, read_job_lem}
use Rattle.plan_grammar.proofs.Nothing.{read_long}
use Rattle.judging.specs.Judge.{on_job, on_plan, judge_said}
use Rattle.whole_input.specs.declared.Text.TheVariants.{Job, Plan}
use Rattle.whole_input.specs.Limits.{limit_of}
use Rattle.whole_input.proofs.Cut.{cut}

-- number 1 of the job text, which has no line: of all texts over the limit
job_over : (s u t : List ℕ) → limit_of Job < length s → limit_of Job < length u → judge_said s t ≡ judge_said u t
unfolding judge_said fault_span_lem
job_over s u t h k =
    ap (λ (x : Outcome JobText). on_job s t (meaning x)) (sym (text_long (limit_of Job) job_lines s h))
    ∙ ap (λ (x : Outcome JobText). on_job u t (meaning x)) (text_long (limit_of Job) job_lines u k)

-- number 1 of the plan text, where the job is accepted
plan_over : (s t u : List ℕ) (o : Outcome Given) → limit_of Plan < length t → limit_of Plan < length u → on_job s t o ≡ on_job s u o
unfolding fault_span_lem
plan_over s t u (accepted given) h k =
    ap (on_plan t given.job) (sym (read_long given.job t h)) ∙ ap (on_plan u given.job) (read_long given.job u k)
plan_over s t u (refused number line) h k = refl

job_same : (s t : List ℕ) → judge_said (take (suc (limit_of Job)) s) t ≡ judge_said s t
job_same s t = ⊎_elim (λ e. ap (λ (x : List ℕ). judge_said x t) e) (λ h. job_over _ s t h.0 h.1) (cut (limit_of Job) s)

plan_same : (s t : List ℕ) → judge_said s (take (suc (limit_of Plan)) t) ≡ judge_said s t
unfolding judge_said
plan_same s t = ⊎_elim (λ e. ap (judge_said s) e) (λ h. plan_over s _ t (read_job_lem s) h.0 h.1) (cut (limit_of Plan) t)

-- texts cut a byte behind their limits are answered as the whole texts
pub same : (s t : List ℕ) → judge_said (take (suc (limit_of Job)) s) (take (suc (limit_of Plan)) t) ≡ judge_said s t
same s t = job_same s (take (suc (limit_of Plan)) t) ∙ plan_same s t
