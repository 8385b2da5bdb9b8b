-- A part's lines of removal, read: none (`cover_none`), and those that stand (`removal_there`); what follows a part has none (`cut_next`). By the optional line of the removal.
use Rattle.std.specs.Prelude.{Option, None, Some}
use Prim.Native.Nat.{ℕ}
use mathlib.Core.Path.{◌≡◌, refl, ap, ◌∙◌}
use mathlib.Core.Bool.{true, false}
use mathlib.Core.List.{List, [], ◌∷◌, ◌++◌, append_assoc}
use Rattle.lines.specs.Line.{starts_with}
use Rattle.lines.specs.Text.{bytes, decimal, line, line_of, texts}
use Rattle.lines.specs.Parser.{Parsed, good, fault, ◌>>=◌, return, row, optional, if_present}
use Rattle.lines.proofs.Parsing.{bind_good, optional_there, optional_missing}
use Rattle.lines.proofs.Back.{starts_own}
use Rattle.covers.specs.Grammar.{inside, cover}
use Rattle.part_lines.specs.Grammar.{PartText}
use Rattle.part_lines.specs.Behind.{Behind}
use Rattle.part_lines.proofs.Behind.{behind_none}
use Rattle.part_writing.specs.Cut.{part_cut_lem}

-- a line begins with its key
pub starts_line : (key : List ℕ) (v : ℕ) (t : List ℕ) → starts_with key (line key v ++ t) ≡ true
unfolding line
starts_line key v t = ap (starts_with key) (append_assoc key (decimal v ++ 10 ∷ []) t) ∙ starts_own key ((decimal v ++ 10 ∷ []) ++ t)

-- where no `removal` line stands, no lines of removal are read
pub cover_none : (m k : ℕ) (s : List ℕ) (l : ℕ) → starts_with (bytes "removal=") s ≡ false → cover m k s l ≡ good None s l
unfolding cover if_present return
cover_none m k s l e = bind_good (optional "removal=" 0 1000000) _ (optional_missing _ 0 1000000 s l e)

module _ (m k r : ℕ) (t : List ℕ) (l : ℕ) where
  -- where they stand, the removal's line decides first
  pub removal_there : cover m k (line_of "removal=" r ++ t) l ≡ ((row "removal=" 0 1000000 >>= λ v. return (Some v)) >>= if_present (inside m k)) (line_of "removal=" r ++ t) l
  unfolding cover ◌>>=◌
  removal_there =
      ap (λ (y : Parsed (Option ℕ)). elim y [ good a s i ↦ if_present (inside m k) a s i | fault n i ↦ fault n i ])
      (optional_there (bytes "removal=") 0 1000000 (line_of "removal=" r ++ t) l (starts_line (bytes "removal=") r t))

-- what follows a part may stand behind its lines
pub cut_next : (ps : List PartText) → Behind (texts part_cut_lem ps)
unfolding starts_with line bytes part_cut_lem
cut_next [] = behind_none
cut_next (p ∷ ps) = record { removal = refl; base = refl }
