-- One row written into the stack, lane by lane, and then its mark: the mark stands behind all rows, and the rows below stay.
use Prim.Native.Nat.{ℕ, ◌≤◌, ◌<◌}
use mathlib.Core.Path.{◌≡◌, ◌∙◌}
use mathlib.Core.List.{List}
use native.Mathlib.Omega.{arith}
use lib.ListN.{length, set, length-set}
use lib.Seq.{get_or-set_same, get_or-set_other}
use Rattle.base.specs.Filled.{FilledBy}
use Rattle.lane_rows.specs.Layout.{lane_count_lem, mark_count, row_place, mark_place, stack_size}
use Rattle.lane_rows.specs.Rows.{Put, Past}

module _ (f : ℕ → ℕ) (w₀ : List ℕ) (n : ℕ) where
  -- a row filled lane by lane, and then its mark set, is one row more on the stack, the rows below kept
  pub put_mark_lem : (wide : ℕ) (w : List ℕ) (g : ℕ → ℕ) (m : ℕ) → n < mark_count → length w₀ ≡ stack_size → wide ≤ lane_count_lem → ((q : ℕ) → q < wide → f q ≡ g q) → FilledBy (row_place n) f wide w₀ w → Put wide g w₀ (set w (mark_place n) m) n m
  put_mark_lem wide w g m h s v e d =
      record {
        kept = record {
          size = length-set w (mark_place n) m ∙ d.size;
          rows = λ k l. get_or-set_other w (mark_place n) k m 0 (λ z. omega (arith, z)) ∙ d.rest k (λ q r z. omega (arith, z));
          marks = λ k l. get_or-set_other w (mark_place n) (mark_place k) m 0 (λ z. omega (arith, z)) ∙ d.rest (mark_place k) (λ q r z. omega (arith, z));
        };
        row = λ q l. get_or-set_other w (mark_place n) (row_place n q) m 0 (λ z. omega (arith, z)) ∙ d.done q l ∙ e q l;
        mark = get_or-set_same w (mark_place n) m 0 (omega (arith, d.size));
      }

  -- nothing past the marks moves
  pub put_past : (wide : ℕ) (w : List ℕ) (m : ℕ) → n < mark_count → wide ≤ lane_count_lem → FilledBy (row_place n) f wide w₀ w → Past w₀ (set w (mark_place n) m)
  put_past wide w m h v d = λ x l. get_or-set_other w (mark_place n) x m 0 (λ z. omega (arith, z)) ∙ d.rest x (λ q r z. omega (arith, z))
