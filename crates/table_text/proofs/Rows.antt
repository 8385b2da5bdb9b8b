-- Laws of rows that are read one after the other: one more, whether it has bytes (`walks_on`) or none (`walks_out`), and the end (`walks_end`). By the place behind the row.
use Prim.Native.Nat.{ℕ, ◌≤◌, ◌<◌}
use mathlib.Core.Path.{◌≡◌, refl, sym, subst}
use mathlib.Core.List.{List, [], ◌∷◌}
use borrow.Author.Tests.{lt-ltb, le-ltb}
use Rattle.table_text.specs.Pieces.{Walks, onward_from}

module _ {F : Type 0} (step : F → ℕ → ℕ → F → Type 0) (size at next : ℕ) (f g : F) (ends : List ℕ) (last : F) where
  -- a row that ends behind its place: what is left is read from its end on
  pub walks_on : at < size → at < next → step f at next g → Walks step size next g ends last → Walks step size at f (next ∷ ends) last
  unfolding Walks
  walks_on inside h s w = (inside, (g, s, subst (λ (k : ℕ). Walks step size k g ends last) (sym (behind h)) w))
    where
      behind : at < next → onward_from size at next ≡ next
      behind h = rw (lt-ltb at next h) refl

  -- a row without bytes: nothing is left
  pub walks_out : at < size → next ≤ at → step f at next g → Walks step size size g ends last → Walks step size at f (next ∷ ends) last
  unfolding Walks
  walks_out inside h s w = (inside, (g, s, subst (λ (k : ℕ). Walks step size k g ends last) (sym (behind h)) w))
    where
      behind : next ≤ at → onward_from size at next ≡ size
      behind h = rw (le-ltb at next h) refl

-- behind the last row nothing is read
pub walks_end : {F : Type 0} (step : F → ℕ → ℕ → F → Type 0) (size at : ℕ) (f : F) → size ≤ at → Walks step size at f [] f
unfolding Walks
walks_end step size at f h = (h, refl)
