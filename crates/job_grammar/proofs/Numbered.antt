-- A job text's fault is number 1 to 5, or one of 12 to the last (`last_fault`), and its line is one of the text's lines or the next (so it fits any counter). By the grammar's forms.
use Rattle.std.specs.Prelude.{Option}
use Prim.Native.Nat.{ℕ, ◌+◌, ◌≤◌, ◌<◌}
use mathlib.Core.Path.{◌≡◌, refl, ap, ap₂, ◌∙◌}
use mathlib.Core.List.{List}
use native.Mathlib.Omega.{arith}
use mathlib.Core.Logic.{inl, inr}
use Rattle.lines.specs.Parser.{row_at, checked, rising, Outcome, accepted, refused}
use Rattle.lines.proofs.Outcomes.{one_fault, not_both}
use Rattle.lines.proofs.Numbered.{Numbers, row_numbers, optional_numbers, present_numbers, checked_numbers, bind_numbers, return_numbers, chain_numbers, refused_fault}
use Rattle.part_lines.specs.Grammar.{part, following}
use Rattle.part_lines.proofs.Numbered.{part_numbers}
pub use Rattle.job_grammar.specs.Faults.{JobFault}
use Rattle.job_grammar.specs.Grammar.{JobText, idle, idle_steps_lem, idles, opening, openings, parts, body, rest, job_lines, max_bytes, read_job_text, meaning, read_job_lem}

-- it is at least 1, and none of 6 to 11
pub fault_some : (n : ℕ) → JobFault n → 1 ≤ n
fault_some n (inl k) = k.0
fault_some n (inr k) = omega (arith, k)

-- a job text's fault is no number from 6 to 11
pub fault_else : (n i : ℕ) → JobFault n → 5 < i → i < 12 → n ≡ i → ⊥
fault_else n i (inl k) l m e = omega (arith, k)
fault_else n i (inr k) l m e = omega (arith, k)

low : (n : ℕ) → 1 ≤ n → n ≤ 5 → JobFault n
low n l m = inl (l, m)

two : JobFault 2
two = low 2 (omega arith) (omega arith)

three : JobFault 3
three = low 3 (omega arith) (omega arith)

twelve : JobFault 12
twelve = inr (omega arith, omega arith)

thirteen : JobFault 13
thirteen = inr (omega arith, omega arith)

line_numbers : (key : List ℕ) (lo hi : ℕ) → Numbers JobFault (row_at key lo hi)
line_numbers = row_numbers JobFault two three

step_numbers : (key : List ℕ) (h before : ℕ) → Numbers JobFault (checked 4 (rising before h) (row_at key 1 365))
step_numbers key h before = checked_numbers JobFault 4 (low 4 (omega arith) (omega arith)) _ _ (line_numbers key 1 365)

idles_numbers : (h : ℕ) → Numbers JobFault (idles h)
unfolding idles idle_steps_lem idle
idles_numbers h =
    bind_numbers JobFault _ _ (optional_numbers JobFault two three _ 1 365)
    (λ o. present_numbers JobFault (idle_steps_lem h) (λ n. chain_numbers JobFault (idle h) _ (step_numbers _ h) n 0) o)

opening_numbers : (h before : ℕ) → Numbers JobFault (opening h before)
unfolding opening
opening_numbers h before =
    bind_numbers JobFault _ _ (step_numbers _ h before) (λ o. bind_numbers JobFault _ _ (line_numbers _ 0 1000000) (λ f. return_numbers JobFault _))

body_numbers : (h : ℕ) (is : Option (List ℕ)) (w : Option ℕ) (n : ℕ) → Numbers JobFault (body h is w n)
unfolding body openings parts
body_numbers h is w n =
    bind_numbers JobFault _ _ (chain_numbers JobFault (opening h) _ (opening_numbers h) n 0)
    (λ os. bind_numbers JobFault _ _ (line_numbers _ 1 16)
    (λ m. bind_numbers JobFault _ _ (chain_numbers JobFault (part m n) following (part_numbers JobFault two three (low 5 (omega arith) (omega arith)) twelve thirteen m n) m 1) (λ ps. return_numbers JobFault _)))

-- a fault in a job's lines has a job text's number, on a line of the text or the next
pub lines_numbers : Numbers JobFault job_lines
unfolding job_lines rest
lines_numbers =
    bind_numbers JobFault _ _ (line_numbers _ 2 365)
    (λ h. bind_numbers JobFault _ _ (idles_numbers h)
    (λ is. bind_numbers JobFault _ _ (optional_numbers JobFault two three _ 0 4000000000)
    (λ w. bind_numbers JobFault _ _ (line_numbers _ 0 64) (λ n. body_numbers h is w n))))

-- a job text's fault has one of a job's numbers, and its line is at most one behind the longest text's last
pub fault : (s : List ℕ) (n l : ℕ) → read_job_lem s ≡ refused n l → JobFault n × (l ≤ max_bytes + 1)
fault s n l e = go (read_job_text s) refl
  where
    go : (x : Outcome JobText) → read_job_text s ≡ x → JobFault n × (l ≤ max_bytes + 1)
    go (accepted t) f = not_both (ap meaning f) e
    go (refused i j) f = refused_fault JobFault max_bytes job_lines (low 1 (omega arith) (omega arith)) two lines_numbers s n l (f ∙ same (one_fault (ap meaning f) e))
      where
        same : (i ≡ n) × (j ≡ l) → ◌≡◌ {A = Outcome JobText} (refused i j) (refused n l)
        same h = ap₂ refused h.0 h.1
