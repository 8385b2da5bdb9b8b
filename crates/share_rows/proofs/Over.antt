-- A lane over rows that count as much as sources may: it is the least over its marks of what each counts and what is left after it, or the least that leads to an opening in time. And marks that are sources.
use Prim.Native.Nat.{ℕ, zero, suc, ◌+◌, ◌-◌, ◌*◌, ◌≤◌, ◌<◌, min}
use mathlib.Core.Path.{◌≡◌, refl, ap, ap₂, ◌∙◌}
use mathlib.Core.Bool.{Bool, true, false, cond}
use mathlib.Core.List.{List, [], ◌∷◌}
use native.Mathlib.Omega.{arith}
use lib.Dec.{ltb}
use lib.ListN.{length, get_or, drop}
use lib.IntN.{ℤ, pos}
use borrow.Author.Tests.{ltb-true, ltb-false}
use Rattle.branch.specs.declared.Bound.{Bound}
use Rattle.branch.specs.declared.Bound.TheVariants.{Missing, Sum}
use Rattle.branch.specs.Lower.{add}
use Rattle.model.specs.Model.{within}
use Rattle.model.specs.LowerBound.{Offer, plus, lower, least_of_lem, offers}
use Rattle.model.proofs.Lower.{lower_comm, add_plus}
use Rattle.shares.specs.Sources.{Source, least_from}
use Rattle.shares.specs.Rows.{in_time_lem, with_row, rows_with}
use Rattle.model.specs.LastYes.{mark_in}
use Rattle.lane_rows.specs.Layout.{dear, inf, suffix_base, reach_base, place, row_place, mark_place}
use Rattle.lane_rows.specs.Sheet.{Column, Mark, reach, solid_then, solid}
use Rattle.lane_rows.specs.Tables.{value_of, Coded, Lane}
use Rattle.lane_rows.specs.Rows.{lane, marks_in, Level}
use Rattle.lane_rows.proofs.Front.{over}
use Rattle.lane_rows.proofs.Lanes.{value_some, value_none, value_plus, value_min}
use Rattle.share_rows.specs.Stacked.{marks_of}

-- ---- numbers

-- a number that stands for a bound has its value, and is within the limit where it is a price
pub coded_value : (b : ℕ) → b < inf → (n : ℕ) (e : Bound) → Coded b n e → (value_of n ≡ e) × (n < inf → n ≤ b)
coded_value b s n Missing c = (value_none n (omega arith), λ h. omega arith)
coded_value b s n (Sum x) c = (value_some n (omega arith) ∙ ap Sum c.0, λ h. omega arith)

-- ---- lanes

module _ (end : ℤ) (ss : List ℤ) (col : Column) (t : List ℕ) (q : ℕ) (la : Lane end ss col t q) (w : List ℕ) (j b : ℕ) where
  -- over the suffix prices: the least over the marks, where what rows and tables hold stays below the number for Missing
  pub least_over : (n : ℕ) → j ≤ length ss → b + dear * (length ss - j) < inf → ((k : ℕ) → k < n → get_or w (mark_place k) 0 ≤ j) → ((k : ℕ) → k < n → Level b (get_or w (row_place k q) 0))
      → value_of (lane t w suffix_base j q n) ≡ over col.life end (marks_in col.first ss w q n) (drop j (offers ss col.prices []))
  unfolding lane marks_in
  least_over zero h s m l = refl
  least_over (suc k) h s m l =
      let i = get_or w (mark_place k) 0 in
      let d = get_or w (row_place k q) 0 in
      let e = get_or t (place suffix_base j i q) 0 in
      let c = coded_value (dear * (length ss - j)) (omega arith) e (least_of_lem col.life end (mark_in col.first ss i) (drop j (offers ss col.prices []))) (la.suffix j i (m k (omega arith)) h) in
      let v = value_plus d e b (dear * (length ss - j)) s (l k (omega arith)).some c.1 in
      value_min (lane t w suffix_base j q k) (d + e) ∙ ap₂ lower (least_over k h s (λ i g. m i (omega arith)) (λ i g. l i (omega arith))) (v.0 ∙ ap (add (value_of d)) c.0)

  -- over the table of reach: the least that leads to opening j in time, and where it is a price it is within the rows' limit
  pub least_reach : (n : ℕ) → j < length ss → ((k : ℕ) → k < n → get_or w (mark_place k) 0 ≤ j) → ((k : ℕ) → k < n → Level b (get_or w (row_place k q) 0))
      → (value_of (lane t w reach_base j q n) ≡ reach col.life (marks_in col.first ss w q n) (get_or ss j (pos 0))) × (lane t w reach_base j q n < inf → lane t w reach_base j q n ≤ b)
  unfolding lane marks_in
  least_reach zero h m l = (refl, λ g. absurd (omega arith))
  least_reach (suc k) h m l =
      let i = get_or w (mark_place k) 0 in
      let d = get_or w (row_place k q) 0 in
      let e = get_or t (place reach_base j i q) 0 in
      let r = least_reach k h (λ i g. m i (omega arith)) (λ i g. l i (omega arith)) in
      let v = one d e (within col.life (mark_in col.first ss i) (get_or ss j (pos 0))) (la.reach j i (m k (omega arith)) h) (l k (omega arith)) in
      (value_min (lane t w reach_base j q k) (d + e) ∙ ap₂ lower r.0 v.0, both (lane t w reach_base j q k) (d + e) r.1 v.1)
    where
      one : (d e : ℕ) (a : Bool) → e ≡ cond a 0 inf → Level b d → (value_of (d + e) ≡ cond a (value_of d) Missing) × (d + e < inf → d + e ≤ b)
      one d e true f l = let z : d + e ≡ d = omega (arith, f) in (ap value_of z, λ g. omega (arith, l.some (omega (arith, f))))
      one d e false f l = (value_none (d + e) (omega (arith, f)), λ g. absurd (omega (arith, f)))

      both : (x y : ℕ) → (x < inf → x ≤ b) → (y < inf → y ≤ b) → min x y < inf → min x y ≤ b
      both x y f g h = go (ltb x y) refl
        where
          go : (a : Bool) → ltb x y ≡ a → min x y ≤ b
          go true e = omega (arith, ltb-true x y e, f (omega (arith, ltb-true x y e)))
          go false e = omega (arith, ltb-false x y e, g (omega (arith, ltb-false x y e)))

-- ---- marks that are sources

-- the least over them, with these openings to follow
pub over_marks : (life end : ℤ) (ss : List Source) (os : List Offer) → over life end (marks_of ss) os ≡ least_from (λ (m : ℤ). least_of_lem life end m os) ss
unfolding least_from
over_marks life end [] os = refl
over_marks life end (s ∷ ss) os =
    ap₂ lower (over_marks life end ss os) (add_plus s.cost (least_of_lem life end s.at os))
    ∙ lower_comm (least_from (λ (m : ℤ). least_of_lem life end m os) ss) (plus s.cost (least_of_lem life end s.at os))

-- the least that leads to a position in time
pub reach_marks : (life : ℤ) (ss : List Source) (p : ℤ) → reach life (marks_of ss) p ≡ least_from (in_time_lem life p) ss
unfolding least_from
reach_marks life [] p = refl
reach_marks life (s ∷ ss) p = ap₂ lower (reach_marks life ss p) (one (within life s.at p)) ∙ lower_comm (least_from (in_time_lem life p) ss) (plus s.cost (in_time_lem life p s.at))
  where
    one : (b : Bool) → cond b (Sum s.cost) Missing ≡ plus s.cost (cond b (Sum 0) Missing)
    one true = ap Sum (omega arith)
    one false = refl

-- one opening more: its mark in front costs what its row counts, or Missing
pub joined_rows : (life : ℤ) (fr : List Mark) (o : Offer) (ss : List Source) → solid fr ≡ marks_of ss
    → solid (record { at = o.position; cost = cond o.allowed (plus o.price (least_from (in_time_lem life o.position) ss)) Missing } ∷ fr) ≡ marks_of (rows_with life o ss)
unfolding solid
joined_rows life fr o ss e = go o.allowed (least_from (in_time_lem life o.position) ss)
  where
    go : (b : Bool) (x : Bound) → solid_then o.position (cond b (plus o.price x) Missing) (solid fr) ≡ marks_of (cond b (with_row o x ss) ss)
    go false x = e
    go true Missing = e
    go true (Sum c) = (λ i. record { at = o.position; cost = Sum (turn i) } ∷ e i)
      where
        turn : o.price + c ≡ c + o.price
        turn = omega arith
