-- Needs against removals, as the code compares them.
use Prim.Native.Nat.{ℕ, suc, ◌-◌, ◌≤◌, ◌<◌}
use mathlib.Core.Path.{◌≡◌, refl, sym, ap, ◌∙◌}
use mathlib.Core.Bool.{Bool, true, false, not, ◌&&◌, ◌||◌}
use mathlib.Core.List.{List, [], ◌∷◌}
use native.Mathlib.Omega.{arith}
use lib.ListN.{length, get_or, take, drop}
use lib.Seq.{take_all}
use Rattle.std.specs.Bool.{MatchBool}
use Rattle.std.specs.List.{list_all, zip, AllWithin, HoldsAt}
use Rattle.std.proofs.lemmas.List.Folds.{list_all_at}
use Rattle.model.specs.Decisions.{accessible, allows}
use Rattle.model.proofs.Blocks.{accessible_none}
use Rattle.held_places.specs.Blocks.{first_or}

-- ---- needs

-- each needed holding part is removed, as far as it is decided
pub accessible_zip : (needs removed : List Bool) → list_all (λ (p : Bool × Bool). not p.0 || p.1) (zip needs removed) ≡ accessible needs removed
unfolding accessible
accessible_zip [] removed = refl
accessible_zip (need ∷ needs) [] = sym (accessible_none (need ∷ needs))
accessible_zip (need ∷ needs) (x ∷ removed) = ap (λ (b : Bool). (not need || x) && b) (accessible_zip needs removed)

-- no more decisions count than there are needs
pub accessible-take : (needs q : List Bool) → accessible needs (take (length needs) q) ≡ accessible needs q
unfolding accessible
accessible-take [] q = refl
accessible-take (need ∷ needs) [] = refl
accessible-take (need ∷ needs) (x ∷ q) = ap (λ (b : Bool). (not need || x) && b) (accessible-take needs q)

-- where each pair is so, and where one is not
zipped : (p : Bool × Bool → Bool) (xs : List (Bool × Bool)) (r : Bool) → MatchBool r (AllWithin (λ x. p x ≡ true) xs 0 (length xs)) ((k : ℕ) × (k < length xs) × HoldsAt (λ x. p x ≡ false) xs k) → r ≡ list_all p xs
zipped p xs true h = sym (all_true xs h)
  where
    all_true : (xs : List (Bool × Bool)) → AllWithin (λ x. p x ≡ true) xs 0 (length xs) → list_all p xs ≡ true
    all_true [] h = refl
    all_true (x ∷ xs) h = ap (λ (b : Bool). b && list_all p xs) (h 0 x (omega arith) (omega arith)) ∙ all_true xs (λ k d a b. h (suc k) d (omega arith) (omega arith))
zipped p xs false h = sym (list_all_at p xs h.0 (true, true) h.1 (h.2 (true, true)))

-- the code's answer is `accessible`
pub accessible_all : (needs removed : List Bool) (r : Bool)
    → MatchBool r (AllWithin (λ x. (not x.0 || x.1) ≡ true) (zip needs removed) 0 (length (zip needs removed))) ((k : ℕ) × (k < length (zip needs removed)) × HoldsAt (λ x. (not x.0 || x.1) ≡ false) (zip needs removed) k)
    → r ≡ accessible needs removed
accessible_all needs removed r h = zipped (λ (x : Bool × Bool). not x.0 || x.1) (zip needs removed) r h ∙ accessible_zip needs removed

-- ---- the first block of a name lets a part be changed

-- a block that begins with a yes does where the holding parts it needs are removed or undecided
pub opens_yes : (needs name : List Bool) (r : Bool) → 1 ≤ length name → get_or name 0 false ≡ true → r ≡ accessible needs (take (length name - 1) (drop 1 name)) → r ≡ allows needs (first_or [] (length needs) name)
opens_yes needs [] r l e f = absurd (omega (arith, l))
opens_yes needs (false ∷ name) r l e f = cc
opens_yes needs (true ∷ name) r l e f = f ∙ ap (accessible needs) (take_all (suc (length name) - 1) name (omega arith)) ∙ sym (accessible-take needs name)

-- where the name has no further block, the opening is undecided and a part can be changed there
pub opens_none : (needs name : List Bool) → length name < 1 → true ≡ allows needs (first_or [] (length needs) name)
opens_none needs [] l = sym (accessible_none needs)
opens_none needs (x ∷ name) l = absurd (omega (arith, l))
