-- A hall text's fault has a job's number or 14, and its line is one of the text's lines or the next. By the grammar's forms.
use Prim.Native.Nat.{ℕ, zero, suc, ◌+◌, ◌≤◌}
use mathlib.Core.Path.{◌≡◌, refl}
use mathlib.Core.List.{List, [], ◌∷◌, ◌++◌}
use mathlib.Core.Logic.{◌⊎◌, inl, inr}
use native.Mathlib.Omega.{arith}
use lib.ListN.{length}
use Rattle.lines.specs.Parser.{Parsed, good, fault, Parser, refused, row_at}
use Rattle.lines.proofs.Numbered.{NumberIn, Numbers, row_numbers, checked_numbers, bind_numbers, return_numbers, refused_fault}
use Rattle.model.specs.Model.{Job}
use Rattle.job_grammar.specs.Grammar.{JobText, job_lines}
use Rattle.job_grammar.proofs.Numbered.{JobFault, lines_numbers as job-numbers}
use Rattle.hall_model.specs.Limits.{most_hall_bytes}
pub use Rattle.hall_grammar.specs.Faults.{HallFault}
use Rattle.job_grammar.specs.Reading.{meant_job}
use Rattle.hall_grammar.specs.Grammar.{joins, job_behind, jobs_behind, hall_lines_lem, read_hall_text}

-- a parser's numbers are among more numbers
among : {A : Type 0} (P Q : ℕ → Type 0) (p : Parser A) → ((n : ℕ) → P n → Q n) → Numbers P p → Numbers Q p
among {A} P Q p f h s l = go (p s l) (h s l)
  where
    go : (x : Parsed A) → NumberIn P (length s) l x → NumberIn Q (length s) l x
    go (good a r m) q = q
    go (fault n m) q = (f n q.0, q.1)

low : (n : ℕ) → 1 ≤ n → n ≤ 5 → HallFault n
low n l m = inl (inl (l, m))

line_numbers : (key : List ℕ) (lo hi : ℕ) → Numbers HallFault (row_at key lo hi)
line_numbers = row_numbers HallFault (low 2 (omega arith) (omega arith)) (low 3 (omega arith) (omega arith))

jobs_numbers : (n : ℕ) (before : List Job) → Numbers HallFault (jobs_behind n before)
unfolding jobs_behind job_behind
jobs_numbers zero before = return_numbers HallFault _
jobs_numbers (suc n) before =
    bind_numbers HallFault _ _ (checked_numbers HallFault 14 (inr refl) (λ (t : JobText). joins before (meant_job t)) job_lines (among JobFault HallFault job_lines (λ k f. inl f) job-numbers))
    (λ t. bind_numbers HallFault _ _ (jobs_numbers n (before ++ (meant_job t ∷ []))) (λ ts. return_numbers HallFault _))

lines_numbers : Numbers HallFault hall_lines_lem
unfolding hall_lines_lem
lines_numbers =
    bind_numbers HallFault _ _ (line_numbers _ 1 4)
    (λ n. bind_numbers HallFault _ _ (line_numbers _ 0 1000000) (λ c. bind_numbers HallFault _ _ (jobs_numbers n []) (λ ts. return_numbers HallFault _)))

-- the fault of a text that is refused
pub hall_fault : (s : List ℕ) (n l : ℕ) → read_hall_text s ≡ refused n l → HallFault n × (l ≤ most_hall_bytes + 1)
hall_fault s n l e = refused_fault HallFault most_hall_bytes hall_lines_lem (low 1 (omega arith) (omega arith)) (low 2 (omega arith) (omega arith)) lines_numbers s n l e
