-- Whether one of the first m has it: by a search through them, and the model's tests over the parts in these terms. By recursion over m and over the parts.
use Rattle.std.specs.List.{list_any, range_with_len}
use mathlib.Core.Path.{◌≡◌, refl, sym, ap, ap₂, ◌∙◌}
use mathlib.Core.Bool.{Bool, false, ◌||◌, ◌&&◌}
use mathlib.Core.List.{List, [], ◌∷◌, map}
use Prim.Native.Nat.{ℕ, zero, suc, ◌+◌, ◌<◌}
use native.Mathlib.Omega.{arith}
use lib.ListN.{length, get_or, drop}
use Rattle.model.specs.Model.{Part, listed, holds_one, out_by}
use Rattle.base.proofs.Bools.{after_one}
use Rattle.coming_out.specs.Rows.{some}

-- a search through m places from a on finds what the test for some of them says
pub some_range : (m a : ℕ) (f g : ℕ → Bool) → ((i : ℕ) → f (a + i) ≡ g i) → list_any f (range_with_len a m) ≡ some m g
unfolding some
some_range zero a f g h = refl
some_range (suc m) a f g h =
    let z : a + 0 ≡ a = omega arith in
    ap₂ ◌||◌ (ap f (sym z) ∙ h 0) (some_range m (a + 1) f (λ i. g (suc i)) (λ i. let z : a + 1 + i ≡ a + suc i = omega arith in ap f z ∙ h (suc i)))

-- a test of a list's entries by their places finds what a search through the list does
pub some_listed : {A : Type 0} (f : A → Bool) (d : A) (xs : List A) → some (length xs) (λ i. f (get_or xs i d)) ≡ list_any f xs
unfolding some
some_listed f d [] = refl
some_listed f d (x ∷ xs) = ap (λ (b : Bool). f x || b) (some_listed f d xs)

-- two tests that agree on the first m places say the same of them
pub some_same : (m : ℕ) (f g : ℕ → Bool) → ((i : ℕ) → i < m → f i ≡ g i) → some m f ≡ some m g
unfolding some
some_same zero f g h = refl
some_same (suc m) f g h = ap₂ ◌||◌ (h 0 (omega arith)) (some_same m (λ i. f (suc i)) (λ i. g (suc i)) (λ i l. h (suc i) (omega arith)))

-- a holder of one of the set
pub holds_some : (ps : List Part) (out : List Bool) (n : ℕ) → holds_one ps out n ≡ some (length ps) (λ i. get_or out i false && listed (get_or (map (λ (part : Part). part.holders) ps) i []) n)
unfolding holds_one some
holds_some [] out n = refl
holds_some (p ∷ ps) out n =
    ap (λ (b : Bool). (get_or out 0 false && listed p.holders n) || b)
    (holds_some ps (drop 1 out) n ∙ some_same (length ps) _ _ (λ i l. ap (λ (b : Bool). b && listed (get_or (map (λ (part : Part). part.holders) ps) i []) n) (after_one out i false)))

-- the part at place j comes out at opening k with one that is changed there
pub out_some : (outs cs : List (List Bool)) (k j : ℕ) → out_by outs cs k j ≡ some (length outs) (λ i. get_or (get_or cs i []) k false && get_or (get_or outs i []) j false)
unfolding out_by some
out_some [] cs k j = refl
out_some (out ∷ outs) cs k j =
    ap (λ (b : Bool). (get_or (get_or cs 0 []) k false && get_or out j false) || b)
    (out_some outs (drop 1 cs) k j ∙ some_same (length outs) _ _ (λ i l. ap (λ (c : List Bool). get_or c k false && get_or (get_or outs i []) j false) (after_one cs i [])))
