-- A part's least price at a node is the least over its front: the price up to each mark that may be the last so far, and the least price of what follows.
-- By deciding one opening after the other: its mark joins the front, and nothing else changes.
use Prim.Native.Nat.{ℕ, ◌<◌}
use mathlib.Core.Path.{◌≡◌, refl, sym, ap, ◌∙◌}
use mathlib.Core.Bool.{Bool, true, false, ◌&&◌, cond}
use mathlib.Core.List.{List, [], ◌∷◌, ◌++◌}
use native.Mathlib.Omega.{arith}
use lib.ListN.{length, get_or, drop}
use lib.IntN.{ℤ, pos}
use Rattle.branch.specs.declared.Bound.{Bound}
use Rattle.branch.specs.declared.Bound.TheVariants.{Missing, Sum}
use Rattle.branch.specs.Lower.{add}
use Rattle.model.specs.Model.{within}
use Rattle.model.specs.LowerBound.{Offer, plus, lower, least_of_lem, offers}
use Rattle.branch.specs.Search.{snoc}
use Rattle.base.proofs.Bools.{after_one}
use Rattle.model.proofs.Lower.{lower_comm, lower_assoc, lower_swap, plus_lower, add_lower, lower_add}
use Rattle.model.proofs.Offers.{offers_yes}
use Rattle.lane_rows.specs.Sheet.{Column, Sheet, column_bound, Mark, reach, front_with, front_from, decided_offers, front}

-- ---- sums

add_more : (p : ℕ) (c r : Bound) → add c (plus p r) ≡ add (plus p c) r
add_more p Missing r = refl
add_more p (Sum c) Missing = refl
add_more p (Sum c) (Sum r) = ap Sum (omega arith)

-- ---- one opening decided

-- the least over the front of the price so far and the least price of what follows
abbrev pub over : ℤ → ℤ → List Mark → List Offer → Bound
over life end [] os = Missing
over life end (f ∷ fr) os = lower (over life end fr os) (add f.cost (least_of_lem life end f.at os))

-- its mark, Missing where the decision is no
abbrev mark_at : ℤ → List Mark → Offer → Mark
mark_at life fr o = record { at = o.position; cost = cond o.allowed (plus o.price (reach life fr o.position)) Missing }

one_mark : (A C X R : Bound) (p : ℕ) (r : Bound) (a w : Bool)
    → lower (lower A (add (cond a (plus p r) Missing) R)) (add C (lower X (cond (a && w) (plus p R) Missing)))
    ≡ lower (lower A (add C X)) (add (cond a (plus p (lower r (cond w C Missing))) Missing) R)
one_mark A C X R p r false w = refl
one_mark A C X R p r true false =
    lower_assoc A (add (plus p r) R) (add C X) ∙ ap (lower A) (lower_comm (add (plus p r) R) (add C X)) ∙ sym (lower_assoc A (add C X) (add (plus p r) R))
one_mark A C X R p r true true =
    ap (lower (lower A (add (plus p r) R))) (add_lower C X (plus p R))
    ∙ lower_swap A (add (plus p r) R) (add C X) (add C (plus p R))
    ∙ ap (lower (lower A (add C X)))
    (ap (lower (add (plus p r) R)) (add_more p C R)
    ∙ sym (lower_add (plus p r) (plus p C) R)
    ∙ ap (λ (x : Bound). add x R) (sym (plus_lower p r C)))

-- deciding one opening: its mark joins the front, and nothing else changes
pub front_step : (life end : ℤ) (fr : List Mark) (o : Offer) (os : List Offer) → over life end fr (o ∷ os) ≡ over life end (mark_at life fr o ∷ fr) os
unfolding least_of_lem
front_step life end [] o os = go o.allowed
  where
    go : (t : Bool) → Missing ≡ lower Missing (add (cond t (plus o.price Missing) Missing) (least_of_lem life end o.position os))
    go true = refl
    go false = refl
front_step life end (f ∷ fr) o os =
    ap (λ (x : Bound). lower x (add f.cost (least_of_lem life end f.at (o ∷ os)))) (front_step life end fr o os)
    ∙ one_mark (over life end fr os) f.cost (least_of_lem life end f.at os) (least_of_lem life end o.position os) o.price (reach life fr o.position) o.allowed (within life f.at o.position)

over_joined : (life end : ℤ) (fr : List Mark) (o : Offer) (os : List Offer) → over life end (mark_at life fr o ∷ fr) os ≡ over life end (front_with life fr o) os
over_joined life end fr o os = go o.allowed
  where
    go : (b : Bool) → lower (over life end fr os) (add (cond b (plus o.price (reach life fr o.position)) Missing) (least_of_lem life end o.position os))
        ≡ over life end (cond b (record { at = o.position; cost = plus o.price (reach life fr o.position) } ∷ fr) fr) os
    go true = refl
    go false = refl

over_front : (life end : ℤ) (ds : List Offer) (fr : List Mark) (os : List Offer) → over life end fr (ds ++ os) ≡ over life end (front_from life fr ds) os
unfolding front_from
over_front life end [] fr os = refl
over_front life end (o ∷ ds) fr os = front_step life end fr o (ds ++ os) ∙ over_joined life end fr o (ds ++ os) ∙ over_front life end ds (front_with life fr o) os

-- ---- a node

zero-add : (e : Bound) → lower Missing (add (Sum 0) e) ≡ e
zero-add Missing = refl
zero-add (Sum n) = ap Sum (omega arith)

-- the decided openings, and the undecided ones as if nothing were decided
offers_split : (ss : List ℤ) (ns : List ℕ) (p : List Bool) → offers ss ns p ≡ decided_offers ss ns p ++ drop (length p) (offers ss ns [])
unfolding offers decided_offers
offers_split [] ns [] = refl
offers_split [] ns (b ∷ p) = refl
offers_split (s ∷ ss) ns [] = refl
offers_split (s ∷ ss) ns (b ∷ p) = ap (λ (l : List Offer). record { position = s; price = get_or ns 0 0; allowed = b } ∷ l) (offers_split ss (drop 1 ns) p)

-- a part's least price at a node is the least over its front, with the undecided openings to follow
pub column_front : (sheet : Sheet) (col : Column) (p : List Bool)
    → column_bound sheet col p ≡ over col.life sheet.end (front sheet.positions col p) (drop (length p) (offers sheet.positions col.prices []))
unfolding column_bound
column_front sheet col p =
    ap (least_of_lem col.life sheet.end col.first) (offers_split ss ns p)
    ∙ sym (zero-add (least_of_lem col.life sheet.end col.first (decided_offers ss ns p ++ rest)))
    ∙ over_front col.life sheet.end (decided_offers ss ns p) (record { at = col.first; cost = Sum 0 } ∷ []) rest
  where
    ss : List ℤ
    ss = sheet.positions

    ns : List ℕ
    ns = col.prices

    rest : List Offer
    rest = drop (length p) (offers ss ns [])

-- a yes and an undecided opening are the same to a part
pub column_yes : (sheet : Sheet) (col : Column) (p : List Bool) → column_bound sheet col p ≡ column_bound sheet col (snoc p true)
unfolding column_bound
column_yes sheet col p = ap (least_of_lem col.life sheet.end col.first) (offers_yes sheet.positions col.prices p)

-- ---- one decision more

-- opening k with the decision b
abbrev pub offer_is : List ℤ → List ℕ → Bool → ℕ → Offer
offer_is ss ns b k = record { position = get_or ss k (pos 0); price = get_or ns k 0; allowed = b }

-- where nothing is decided there are no decided openings
pub decided_nil : (ss : List ℤ) (ns : List ℕ) → decided_offers ss ns [] ≡ []
unfolding decided_offers
decided_nil [] ns = refl
decided_nil (s ∷ ss) ns = refl

decided_snoc : (ss : List ℤ) (ns : List ℕ) (p : List Bool) (b : Bool) → length p < length ss → decided_offers ss ns (p ++ (b ∷ [])) ≡ decided_offers ss ns p ++ (offer_is ss ns b (length p) ∷ [])
unfolding decided_offers
decided_snoc [] ns p b h = absurd (omega arith)
decided_snoc (s ∷ ss) ns [] b h = ap (λ (l : List Offer). record { position = s; price = get_or ns 0 0; allowed = b } ∷ l) (decided_nil ss (drop 1 ns))
decided_snoc (s ∷ ss) ns (d ∷ p) b h =
    ap (λ (l : List Offer). record { position = s; price = get_or ns 0 0; allowed = d } ∷ l)
    (decided_snoc ss (drop 1 ns) p b (omega arith)
    ∙ ap (λ (x : ℕ). decided_offers ss (drop 1 ns) p ++ (record { position = get_or ss (length p) (pos 0); price = x; allowed = b } ∷ [])) (after_one ns (length p) 0))

front_from_snoc : (life : ℤ) (fr : List Mark) (ds : List Offer) (o : Offer) → front_from life fr (ds ++ (o ∷ [])) ≡ front_with life (front_from life fr ds) o
unfolding front_from
front_from_snoc life fr [] o = refl
front_from_snoc life fr (d ∷ ds) o = front_from_snoc life (front_with life fr d) ds o

-- the front after one decision more is the front before it, with the opening's mark where it is a yes
pub front_snoc : (ss : List ℤ) (col : Column) (p : List Bool) (b : Bool) → length p < length ss → front ss col (p ++ (b ∷ [])) ≡ front_with col.life (front ss col p) (offer_is ss col.prices b (length p))
front_snoc ss col p b h =
    ap (front_from col.life (record { at = col.first; cost = Sum 0 } ∷ [])) (decided_snoc ss col.prices p b h)
    ∙ front_from_snoc col.life (record { at = col.first; cost = Sum 0 } ∷ []) (decided_offers ss col.prices p) (offer_is ss col.prices b (length p))
