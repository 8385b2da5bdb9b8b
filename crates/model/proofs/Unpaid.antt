-- A part with nothing to pay: its least price is 0, and there exactly where there is one at any prices. By recursion over the openings.
use Prim.Native.Nat.{ℕ, suc}
use mathlib.Core.Path.{◌≡◌, refl, sym, ap, ◌∙◌}
use mathlib.Core.Bool.{Bool, true, false, cond, ◌&&◌}
use mathlib.Core.List.{List, [], ◌∷◌}
use lib.Dec.{ltb}
use lib.ListN.{get_or, drop}
use lib.IntN.{ℤ}
use Rattle.branch.specs.declared.Bound.{Bound}
use Rattle.branch.specs.declared.Bound.TheVariants.{Missing, Sum}
use Rattle.branch.proofs.Bounds.{no_sum_lem}
use Rattle.model.specs.Model.{within}
use Rattle.model.specs.LowerBound.{plus, lower, least_of_lem, offers}
use Rattle.base.proofs.Bools.{after_one}

-- a bound with nothing to pay: 0 where it is there, missing where it is missing
abbrev pub unpaid : Bound → Bound
unpaid Missing = Missing
unpaid (Sum x) = Sum 0

unpaid-lower : (a b : Bound) → lower (unpaid a) (unpaid b) ≡ unpaid (lower a b)
unpaid-lower Missing Missing = refl
unpaid-lower Missing (Sum b) = refl
unpaid-lower (Sum a) Missing = refl
unpaid-lower (Sum a) (Sum b) = go (ltb b a)
  where
    go : (t : Bool) → Sum 0 ≡ unpaid (cond t (Sum b) (Sum a))
    go true = refl
    go false = refl

unpaid_change : (t : Bool) (n : ℕ) (e : Bound) → cond t (plus 0 (unpaid e)) Missing ≡ unpaid (cond t (plus n e) Missing)
unpaid_change false n e = refl
unpaid_change true n Missing = refl
unpaid_change true n (Sum x) = refl

-- whether a part can be kept doesn't depend on its prices
pub unpaid_least : (life end prev : ℤ) (ss : List ℤ) (zs ns : List ℕ) (p : List Bool) → ((j : ℕ) → get_or zs j 0 ≡ 0)
    → least_of_lem life end prev (offers ss zs p) ≡ unpaid (least_of_lem life end prev (offers ss ns p))
unfolding least_of_lem offers
unpaid_least life end prev [] zs ns p h = go (within life prev end)
  where
    go : (t : Bool) → cond t (Sum 0) Missing ≡ unpaid (cond t (Sum 0) Missing)
    go true = refl
    go false = refl
unpaid_least life end prev (s ∷ ss) zs ns p h =
    let rest : (last : ℤ) → least_of_lem life end last (offers ss (drop 1 zs) (drop 1 p)) ≡ unpaid (least_of_lem life end last (offers ss (drop 1 ns) (drop 1 p))) =
    λ last. unpaid_least life end last ss (drop 1 zs) (drop 1 ns) (drop 1 p) (λ j. after_one zs j 0 ∙ h (suc j)) in
    let t = get_or p 0 true && within life prev s in
    let a = least_of_lem life end prev (offers ss (drop 1 ns) (drop 1 p)) in
    let b = least_of_lem life end s (offers ss (drop 1 ns) (drop 1 p)) in
    (λ i. lower (rest prev i) (cond t (plus (h 0 i) (rest s i)) Missing))
    ∙ ap (lower (unpaid a)) (unpaid_change t (get_or ns 0 0) b) ∙ unpaid-lower a (cond t (plus (get_or ns 0 0) b) Missing)

-- so at any two lists of prices there is a least price together
pub there_together : (life end prev : ℤ) (ss : List ℤ) (ns ms : List ℕ) (p : List Bool) (n : ℕ) → least_of_lem life end prev (offers ss ns p) ≡ Sum n → (m : ℕ) × (least_of_lem life end prev (offers ss ms p) ≡ Sum m)
there_together life end prev ss ns ms p n e =
    go (least_of_lem life end prev (offers ss ms p)) (sym (unpaid_least life end prev ss [] ms p (λ j. refl)) ∙ unpaid_least life end prev ss [] ns p (λ j. refl) ∙ ap unpaid e)
  where
    go : (x : Bound) → unpaid x ≡ Sum 0 → (m : ℕ) × (x ≡ Sum m)
    go Missing f = absurd (no_sum_lem Missing 0 refl f)
    go (Sum m) f = (m, refl)
