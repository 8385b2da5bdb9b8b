-- Bytes after the last line of an accepted text have a fault 2 on the line after it (`job_more`, `plan_more`). By what is read with anything behind it.
use Prim.Native.Nat.{ℕ, ◌+◌, ◌≤◌}
use mathlib.Core.Path.{◌≡◌, refl, sym, ap, subst, ◌∙◌}
use mathlib.Core.List.{List, [], ◌∷◌, ◌++◌}
use mathlib.Core.Logic.{◌⊎◌, inl, inr}
use native.Mathlib.Omega.{arith}
use lib.ListN.{length}
use Rattle.lines.specs.Parser.{good, Parser, end as ends, accepted, refused, finish, whole, read_text}
use Rattle.lines.proofs.Parsing.{bind_good, bind_fault, text_fits}
use Rattle.model.specs.Model.{Job}
use Rattle.jobs.specs.Valid.{ValidJob}
use Rattle.part_lines.specs.Behind.{BehindParts}
use Rattle.job_grammar.specs.Grammar.{JobText, job_lines, max_bytes, read_job_text, meaning, read_job_lem}
use Rattle.job_grammar.proofs.Complete.{lines_back as job-back, accepted_exactly}
use Rattle.plan_grammar.specs.Grammar.{Stated, nothing, plan_lines, read_plan_lem}
use Rattle.plan_grammar.specs.Grammar as plan
use Rattle.plan_grammar.specs.Rendering.{plan_lines_of}
use Rattle.plan_grammar.proofs.Accepted as plans
use Rattle.plan_grammar.proofs.Rendered.{text_is}
use Rattle.plan_grammar.proofs.Shapes.{shaped}
use Rattle.plan_grammar.proofs.Printed.{lines_back as plan-back}
use Rattle.delivered.specs.FirstLines.{breaks}
use Rattle.delivered.proofs.FirstLines.{InSpan, Linewise, breaks_both}
use Rattle.delivered.proofs.FirstFaults.{any, job_linewise, plan_linewise}

-- where the lines end before a byte, it is on the next line
module _ {A : Type 0} (most : ℕ) (p : Parser A) (h : Linewise any p) where
  text_more : (text : List ℕ) (a : A) (byte : ℕ) (more : List ℕ) (k : ℕ) → p (text ++ (byte ∷ more)) 1 ≡ good a (byte ∷ more) k → length (text ++ (byte ∷ more)) ≤ most → read_text most p (text ++ (byte ∷ more)) ≡ refused 2 (breaks text + 1)
  unfolding whole ends
  text_more text a byte more k e few =
      let span : k + breaks (byte ∷ more) ≡ 1 + breaks (text ++ (byte ∷ more)) = subst (InSpan (1 + breaks (text ++ (byte ∷ more)))) e (h.spans (text ++ (byte ∷ more)) 1) in
      let here : k ≡ breaks text + 1 = omega (arith, span, breaks_both text (byte ∷ more)) in
      sym (text_fits most p (text ++ (byte ∷ more)) few) ∙ ap finish (bind_good p _ e ∙ bind_fault ends _ refl) ∙ ap (refused 2) here

-- a job text, where what is behind it is no further line of its last part
pub job_more : (text : List ℕ) (t : JobText) → read_job_text text ≡ accepted t → (byte : ℕ) (more : List ℕ) → BehindParts t.parts (byte ∷ more) → length (text ++ (byte ∷ more)) ≤ max_bytes → read_job_lem (text ++ (byte ∷ more)) ≡ refused 2 (breaks text + 1)
job_more text t e byte more behind few =
    let a = (accepted_exactly text t).0 e in
    let b = job-back t a.0 (byte ∷ more) 1 behind in
    ap meaning (text_more max_bytes job_lines (job_linewise any) text t byte more b.0 (ap (λ (s : List ℕ). job_lines (s ++ (byte ∷ more)) 1) a.1 ∙ b.1) few)

-- a plan text that has lines
pub plan_more : (job : Job) → ValidJob job → (text : List ℕ) (stated : Stated) → read_plan_lem job text ≡ accepted stated → (text ≡ [] → ⊥) → (byte : ℕ) (more : List ℕ) → length (text ++ (byte ∷ more)) ≤ plan.max_bytes
    → read_plan_lem job (text ++ (byte ∷ more)) ≡ refused 2 (breaks text + 1)
unfolding read_plan_lem
plan_more job v [] stated e some byte more few = absurd (some refl)
plan_more job v (c ∷ s) stated e some byte more few = go (text_is job v (c ∷ s) stated e)
  where
    go : ((c ∷ s ≡ []) × (nothing job ≡ stated)) ⊎ (c ∷ s ≡ plan_lines_of job stated.cost stated.plan) → read_text plan.max_bytes (plan_lines job) ((c ∷ s) ++ (byte ∷ more)) ≡ refused 2 (breaks (c ∷ s) + 1)
    go (inl h) = absurd (some h.0)
    go (inr h) =
        let b = plan-back job v stated.cost stated.plan (plans.valid job (c ∷ s) stated e).cost (shaped job (c ∷ s) stated e) (byte ∷ more) 1 in
        text_more plan.max_bytes (plan_lines job) (plan_linewise any job) (c ∷ s) stated byte more b.0 (ap (λ (x : List ℕ). plan_lines job (x ++ (byte ∷ more)) 1) h ∙ b.1) few
