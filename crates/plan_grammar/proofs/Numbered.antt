-- A plan text's fault is number 1, 2, 3 or 9, and its line is one of the text's lines or the next (so it fits any counter). By the grammar's forms; the empty text has none.
use Prim.Native.Nat.{ℕ, ◌≤◌, ◌<◌}
use mathlib.Core.Path.{◌≡◌, refl, sym, ◌∙◌}
use mathlib.Core.List.{List, [], ◌∷◌}
use lib.ListN.{length}
use mathlib.Core.Logic.{inl, inr}
use native.Mathlib.Omega.{arith}
use Rattle.lines.specs.Parser.{row_at, refused}
use Rattle.lines.proofs.Outcomes.{not_both}
use Rattle.lines.proofs.Numbered.{Numbers, row_numbers, checked_numbers, bind_numbers, return_numbers, chain_numbers, refused_fault}
use Rattle.model.specs.Model.{Job}
pub use Rattle.plan_grammar.specs.Faults.{PlanFault}
use Rattle.plan_grammar.specs.Grammar.{part, parts, visit, visits, plan_lines, max_bytes, read_plan_lem}

-- it is at least 1, and of those above 3 only 9
pub fault_some : (n : ℕ) → PlanFault n → 1 ≤ n
fault_some n (inl k) = k.0
fault_some n (inr k) = omega (arith, k)

-- a plan text's fault is no number above 3 other than 9
pub fault_else : (n i : ℕ) → PlanFault n → 3 < i → (i ≡ 9 → ⊥) → n ≡ i → ⊥
fault_else n i (inl k) l m e = omega (arith, k)
fault_else n i (inr k) l m e = m (sym e ∙ k)

line_numbers : (key : List ℕ) (lo hi : ℕ) → Numbers PlanFault (row_at key lo hi)
line_numbers = row_numbers PlanFault (inl (omega arith, omega arith)) (inl (omega arith, omega arith))

visit_numbers : (job : Job) (before : ℕ) → Numbers PlanFault (visit job before)
unfolding visit part parts
visit_numbers job before =
    bind_numbers PlanFault _ _ (checked_numbers PlanFault 9 (inr refl) _ _ (line_numbers _ 1 365))
    (λ step. bind_numbers PlanFault _ _ (line_numbers _ 0 16)
    (λ n. bind_numbers PlanFault _ _ (chain_numbers PlanFault (part (length job.parts)) _ (λ k. checked_numbers PlanFault 9 (inr refl) _ _ (line_numbers _ 1 16)) n 0) (λ ks. return_numbers PlanFault _)))

-- a fault in a plan's lines is number 1, 2, 3 or 9, on a line of the text or the next
pub lines_numbers : (job : Job) → Numbers PlanFault (plan_lines job)
unfolding plan_lines visits
lines_numbers job =
    bind_numbers PlanFault _ _ (line_numbers _ 0 4000000000)
    (λ cost. bind_numbers PlanFault _ _ (line_numbers _ 0 64)
    (λ n. bind_numbers PlanFault _ _ (chain_numbers PlanFault (visit job) _ (visit_numbers job) n 0) (λ vs. return_numbers PlanFault _)))

-- a plan text's fault has one of a plan's numbers, and its line is at most one behind the longest text's last
pub fault : (job : Job) (s : List ℕ) (n l : ℕ) → read_plan_lem job s ≡ refused n l → PlanFault n × (l ≤ 32769)
unfolding read_plan_lem
fault job [] n l e = not_both refl e
fault job (b ∷ s) n l e =
    refused_fault PlanFault max_bytes (plan_lines job) (inl (omega arith, omega arith)) (inl (omega arith, omega arith)) (lines_numbers job) (b ∷ s) n l e
