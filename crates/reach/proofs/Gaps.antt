-- From a mark to a small number: the difference fits an i32, and marks have 31 bits too where their first is read back from its bits.
use Prim.Native.Nat.{ℕ}
use mathlib.Core.Path.{◌≡◌, ap, ◌∙◌}
use mathlib.Core.List.{List}
use lib.IntN.{ℤ, ◌-ℤ◌}
use mir.Syntax.{w32}
use mir.Val.{SFits, to_z, of_z}
use mir.Facts.{to_z-of_z}
use Rattle.base.specs.Signed.{Bits31}
use Rattle.base.proofs.Diff.{diff_fits, small_back}
use Rattle.model.specs.LastYes.{mark_in}

-- from a mark to a small number, both read back
pub gap_fits : (z r f : ℤ) (ss : List ℤ) (i : ℕ) → Bits31 z → r ≡ mark_in (to_z w32 (of_z w32 f)) ss i → SFits w32 f → ((j : ℕ) → Bits31 (mark_in f ss j)) → SFits w32 (to_z w32 (of_z w32 z) -ℤ to_z w32 (of_z w32 r))
gap_fits z r f ss i b e p h =
    diff_fits (to_z w32 (of_z w32 z)) (to_z w32 (of_z w32 r)) (small_back z b) (small_back r (rw (e ∙ ap (λ (x : ℤ). mark_in x ss i) (to_z-of_z p)) (h i)))
