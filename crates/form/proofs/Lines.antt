-- A text read by its lines, of any length: what is accepted is the text of a valid record (`lines_known`), and a fault has a job text's number, on a line of the text or the one behind it (`lines_fault`). By the limit that the text itself keeps.
use Prim.Native.Nat.{ℕ, ◌+◌, ◌≤◌}
use mathlib.Core.Path.{◌≡◌, sym, ◌∙◌}
use mathlib.Core.List.{List, append-nil}
use mathlib.Core.Logic.{inl}
use native.Mathlib.Omega.{arith}
use lib.ListN.{length}
use Rattle.lines.specs.Parser.{accepted, refused, finish, whole}
use Rattle.lines.proofs.Parsing.{text_fits}
use Rattle.lines.proofs.Sound.{accepted_is}
use Rattle.lines.proofs.Numbered.{refused_fault}
use Rattle.job_grammar.specs.Grammar.{JobText, job_lines}
use Rattle.job_grammar.specs.Rendering.{job_text_lem}
use Rattle.job_grammar.specs.Valid.{ValidText}
use Rattle.job_grammar.specs.Faults.{JobFault}
use Rattle.job_grammar.proofs.Accepted.{lines_tell}
use Rattle.job_grammar.proofs.Numbered.{lines_numbers}

module _ (s : List ℕ) where
  pub lines_known : (t : JobText) → finish (whole job_lines s 1) ≡ accepted t → ValidText t × (s ≡ job_text_lem t)
  lines_known t e =
      let a = accepted_is (length s) job_lines s t (sym (text_fits (length s) job_lines s (omega arith)) ∙ e) in
      let k = lines_tell s _ 1 a.last t a.lines in
      (k.known, k.text ∙ append-nil (job_text_lem t))

  pub lines_fault : (most n l : ℕ) → length s ≤ most → finish (whole job_lines s 1) ≡ refused n l → JobFault n × (l ≤ most + 1)
  lines_fault most n l few e =
      refused_fault JobFault most job_lines (inl (omega arith, omega arith)) (inl (omega arith, omega arith)) lines_numbers s n l (sym (text_fits most job_lines s few) ∙ e)
