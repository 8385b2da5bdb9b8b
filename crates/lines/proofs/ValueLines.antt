-- The line of a value, read: the value where it is in its range (`value_in`), else number 3 (`value_low`, `value_high`). By what is read back from a line.
use Prim.Native.Nat.{ℕ, ◌+◌, ◌^◌, ◌≤◌, ◌<◌}
use mathlib.Core.Path.{◌≡◌, sym, ap, ◌∙◌}
use mathlib.Core.List.{List, ◌++◌}
use lib.Seq.{drop-append_seam}
use Rattle.lines.specs.Parser.{good, fault, taken, row_at}
use Rattle.lines.specs.Text.{line}
use Rattle.lines.proofs.Reading.{field_good, field_low, field_high}
use Rattle.lines.proofs.Back.{line_back}

-- the line of v, then s
module _ (key : List ℕ) (lo hi v : ℕ) (few : v < 10 ^ 10) (s : List ℕ) (l : ℕ) where
  pub value_in : lo ≤ v → v ≤ hi → row_at key lo hi (line key v ++ s) l ≡ good v s (l + 1)
  unfolding row_at taken
  value_in low high =
      ap (taken (line key v ++ s) l) (sym (field_good key (line key v ++ s) lo hi (line_back key v s few) low high))
      ∙ ap (λ (r : List ℕ). good v r (l + 1)) (drop-append_seam (line key v) s)

  pub value_low : v < lo → row_at key lo hi (line key v ++ s) l ≡ fault 3 l
  unfolding row_at taken
  value_low h = ap (taken (line key v ++ s) l) (sym (field_low key (line key v ++ s) lo hi (line_back key v s few) h))

  pub value_high : lo ≤ v → hi < v → row_at key lo hi (line key v ++ s) l ≡ fault 3 l
  unfolding row_at taken
  value_high low h = ap (taken (line key v ++ s) l) (sym (field_high key (line key v ++ s) lo hi (line_back key v s few) low h))
