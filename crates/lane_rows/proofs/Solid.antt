-- Marks that cost Missing add nothing: what is in reach of a front, and the least over it, depend on its solid marks alone. So a front may carry the mark of a stop that is shut to the lane,
-- at Missing, in place of none. By recursion over the marks.
use mathlib.Core.Path.{◌≡◌, refl, sym, ap, ◌∙◌}
use mathlib.Core.Bool.{Bool, true, false, cond}
use mathlib.Core.List.{List, [], ◌∷◌}
use lib.IntN.{ℤ}
use Rattle.branch.specs.declared.Bound.{Bound}
use Rattle.branch.specs.declared.Bound.TheVariants.{Missing, Sum}
use Rattle.branch.specs.Lower.{add}
use Rattle.model.specs.Model.{within}
use Rattle.model.specs.LowerBound.{Offer, plus, lower, least_of_lem}
use Rattle.lane_rows.specs.Sheet.{Mark, reach, front_with, solid_then, solid}
use Rattle.lane_rows.proofs.Front.{over}

module _ (life : ℤ) where
  reach_then : (at : ℤ) (cost : Bound) (fr : List Mark) (s : ℤ) → reach life (solid_then at cost fr) s ≡ lower (reach life fr s) (cond (within life at s) cost Missing)
  reach_then at Missing fr s = go (within life at s)
    where
      go : (b : Bool) → reach life fr s ≡ lower (reach life fr s) (cond b Missing Missing)
      go true = refl
      go false = refl
  reach_then at (Sum c) fr s = refl

  -- the least price from which a position is in reach is the same over the solid marks alone
  pub reach-solid : (fr : List Mark) (s : ℤ) → reach life (solid fr) s ≡ reach life fr s
  unfolding solid
  reach-solid [] s = refl
  reach-solid (f ∷ fr) s = reach_then f.at f.cost (solid fr) s ∙ ap (λ (x : Bound). lower x (cond (within life f.at s) f.cost Missing)) (reach-solid fr s)

  over_then : (end at : ℤ) (cost : Bound) (fr : List Mark) (os : List Offer) → over life end (solid_then at cost fr) os ≡ lower (over life end fr os) (add cost (least_of_lem life end at os))
  over_then end at Missing fr os = refl
  over_then end at (Sum c) fr os = refl

  -- the least over a front is the same over its solid marks alone
  pub over-solid : (end : ℤ) (fr : List Mark) (os : List Offer) → over life end (solid fr) os ≡ over life end fr os
  unfolding solid
  over-solid end [] os = refl
  over-solid end (f ∷ fr) os = over_then end f.at f.cost (solid fr) os ∙ ap (λ (x : Bound). lower x (add f.cost (least_of_lem life end f.at os))) (over-solid end fr os)

  -- so fronts with the same solid marks are as good
  pub reach_same : (fr gr : List Mark) (s : ℤ) → solid fr ≡ solid gr → reach life fr s ≡ reach life gr s
  reach_same fr gr s e = sym (reach-solid fr s) ∙ ap (λ (l : List Mark). reach life l s) e ∙ reach-solid gr s

  -- fronts with the same solid marks have the same least over them
  pub over_same : (end : ℤ) (fr gr : List Mark) (os : List Offer) → solid fr ≡ solid gr → over life end fr os ≡ over life end gr os
  over_same end fr gr os e = sym (over-solid end fr os) ∙ ap (λ (l : List Mark). over life end l os) e ∙ over-solid end gr os

  -- one stop more: its mark costs what it costs where it is allowed, and Missing where it is shut
  pub joined_solid : (fr gr : List Mark) (o : Offer) → solid fr ≡ solid gr → solid (record { at = o.position; cost = cond o.allowed (plus o.price (reach life gr o.position)) Missing } ∷ fr) ≡ solid (front_with life gr o)
  unfolding solid
  joined_solid fr gr o e = go o.allowed
    where
      go : (b : Bool) → solid_then o.position (cond b (plus o.price (reach life gr o.position)) Missing) (solid fr)
          ≡ solid (cond b (record { at = o.position; cost = plus o.price (reach life gr o.position) } ∷ gr) gr)
      go true = ap (solid_then o.position (plus o.price (reach life gr o.position))) e
      go false = e
