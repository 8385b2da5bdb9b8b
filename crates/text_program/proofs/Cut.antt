-- What is said of what the buffer keeps of a text is said of the text: `same` for an answer that is a value, `kept` for one that is a relation. By `cut`: the text fits, or both are over the limit.
use Prim.Native.Nat.{ℕ, suc, ◌<◌}
use mathlib.Core.Path.{◌≡◌, ap, subst}
use mathlib.Core.List.{List}
use mathlib.Core.Logic.{⊎_elim}
use lib.ListN.{length, take}
use Rattle.answers.specs.Said.{Said}
use Rattle.whole_input.specs.declared.Text.{Text}
use Rattle.whole_input.specs.Limits.{limit_of}
use Rattle.whole_input.proofs.Cut.{cut}

module _ (which : Text) where
  -- a value that all texts over the limit have alike
  pub same : (f : List ℕ → Said) → ((s t : List ℕ) → limit_of which < length s → limit_of which < length t → f s ≡ f t)
      → (s : List ℕ) → f (take (suc (limit_of which)) s) ≡ f s
  same f over s = ⊎_elim (λ e. ap f e) (λ h. over _ s h.0 h.1) (cut (limit_of which) s)

  -- a relation that all texts over the limit have alike
  pub kept : (Says : List ℕ → Said → Type 0) → ((s t : List ℕ) (x : Said) → limit_of which < length s → limit_of which < length t → Says s x → Says t x)
      → (s : List ℕ) (x : Said) → Says (take (suc (limit_of which)) s) x → Says s x
  kept Says over s x p = ⊎_elim (λ e. subst (λ (t : List ℕ). Says t x) e p) (λ h. over _ s x h.0 h.1 p) (cut (limit_of which) s)
