-- How large a least price can be: no more than the highest price at each opening that is left. By induction over the openings.
use Prim.Native.Nat.{ℕ, zero, suc, ◌+◌, ◌-◌, ◌*◌, ◌≤◌}
use mathlib.Core.Path.{◌≡◌, ap, subst, ◌∙◌}
use mathlib.Core.Bool.{Bool, true, false, ◌&&◌, cond}
use mathlib.Core.List.{List, [], ◌∷◌}
use native.Mathlib.Omega.{arith}
use native.Mathlib.Nat.{mul-suc}
use lib.ListN.{length, get_or, drop, length-drop}
use lib.IntN.{ℤ}
use Rattle.branch.specs.declared.Bound.{Bound}
use Rattle.branch.specs.declared.Bound.TheVariants.{Missing, Sum}
use Rattle.model.specs.Model.{within}
use Rattle.model.specs.LowerBound.{Offer, plus, lower_than, change_at_lem, least_of_lem, offers}
use Rattle.model.proofs.Offers.{offers-length}
use Rattle.base.proofs.Bools.{after_one}

-- a price, where there is one, is at most b
abbrev pub AtMost : ℕ → Bound → Type 0
AtMost b Missing = Unit {0}
AtMost b (Sum x) = x ≤ b

most_cond : (t : Bool) (d e : Bound) (b : ℕ) → AtMost b d → AtMost b e → AtMost b (cond t d e)
most_cond true d e b h g = h
most_cond false d e b h g = g

most_more : (e : Bound) (a b : ℕ) → a ≤ b → AtMost a e → AtMost b e
most_more Missing a b h l = tt
most_more (Sum x) a b h l = omega arith

module _ (top : ℕ) where
  abbrev Cheap : List Offer → Type 0
  Cheap [] = Unit {0}
  Cheap (o ∷ os) = (o.price ≤ top) × Cheap os

  most_plus : (p : ℕ) (e : Bound) (b : ℕ) → p ≤ top → AtMost b e → AtMost (b + top) (plus p e)
  most_plus p Missing b h l = tt
  most_plus p (Sum x) b h l = omega arith

  most_of : (life end : ℤ) (os : List Offer) (prev : ℤ) → Cheap os → AtMost (top * length os) (least_of_lem life end prev os)
  unfolding least_of_lem
  most_of life end [] prev h = most_cond (within life prev end) (Sum 0) Missing (top * 0) (omega arith) tt
  most_of life end (o ∷ os) prev h =
      let rest = least_of_lem life end o.position os in
      let skip = least_of_lem life end prev os in
      let m = mul-suc top (length os) in
      most_cond (lower_than skip (change_at_lem life prev o rest)) (change_at_lem life prev o rest) skip (top * suc (length os))
      (most_cond (o.allowed && within life prev o.position) (plus o.price rest) Missing (top * suc (length os))
      (most_more (plus o.price rest) (top * length os + top) (top * suc (length os)) (omega (arith, m)) (most_plus o.price rest (top * length os) h.0 (most_of life end os o.position h.1))) tt)
      (most_more skip (top * length os) (top * suc (length os)) (omega (arith, m)) (most_of life end os prev h.1))

  cheap_offers : (ss : List ℤ) (ps : List ℕ) (fs : List Bool) → ((j : ℕ) → get_or ps j 0 ≤ top) → Cheap (offers ss ps fs)
  unfolding offers
  cheap_offers [] ps fs h = tt
  cheap_offers (s ∷ ss) ps fs h = (h 0, cheap_offers ss (drop 1 ps) (drop 1 fs) (λ j. rw (after_one ps j 0) (h (suc j))))

  cheap_drop : (k : ℕ) (os : List Offer) → Cheap os → Cheap (drop k os)
  cheap_drop zero os h = h
  cheap_drop (suc k) [] h = tt
  cheap_drop (suc k) (o ∷ os) h = cheap_drop k os h.1

  -- over the openings from k on
  pub most_least : (life end prev : ℤ) (ss : List ℤ) (ps : List ℕ) (fs : List Bool) (k : ℕ) → ((j : ℕ) → get_or ps j 0 ≤ top) → AtMost (top * (length ss - k)) (least_of_lem life end prev (drop k (offers ss ps fs)))
  most_least life end prev ss ps fs k c =
      let os = offers ss ps fs in
      let n : length (drop k os) ≡ length ss - k = length-drop k os ∙ ap (λ (m : ℕ). m - k) (offers-length ss ps fs) in
      subst (λ (m : ℕ). AtMost (top * m) (least_of_lem life end prev (drop k os))) n (most_of life end (drop k os) prev (cheap_drop k os (cheap_offers ss ps fs c)))
