-- The code's lanes of numbers are the parts' least prices: a lane over the suffix prices is the least over the front, a lane over the reach table is the least cost from which opening j is in reach.
use Prim.Native.Nat.{ℕ, zero, suc, ◌+◌, ◌-◌, ◌*◌, ◌^◌, ◌<◌, ◌≤◌, min, max}
use mathlib.Core.Path.{◌≡◌, refl, sym, ap, ap₂, subst, ◌∙◌}
use mathlib.Core.Bool.{Bool, true, false, not, cond}
use mathlib.Core.List.{List, [], ◌∷◌}
use native.Mathlib.Omega.{arith}
use native.Mathlib.Nat.{add-mul}
use native.Mathlib.Numerals.{add-one}
use native.Mathlib.Decide.{ℕ_discrete, dec_lt}
use borrow.Author.Tests.{ltb-true, ltb-false, lt-ltb, le-ltb}
use lib.Dec.{ltb}
use lib.ListN.{length, get_or, drop, length-append}
use lib.IntN.{ℤ, pos}
use Rattle.branch.specs.declared.Bound.{Bound}
use Rattle.branch.specs.declared.Bound.TheVariants.{Missing, Sum}
use Rattle.branch.specs.Lower.{add, total, larger}
use Rattle.branch.specs.Search.{snoc}
use Rattle.branch.proofs.Bounds.{no_sum_lem, sum_inj}
use Rattle.branch.proofs.Lower.{split}
use Rattle.model.proofs.Lower.{plus_sum}
use Rattle.model.specs.Model.{within}
use Rattle.model.specs.LowerBound.{Offer, plus, lower, least_of_lem, offers, change_at_lem}
use Rattle.model.specs.LastYes.{last_yes, mark_in}
use Rattle.model.proofs.LastYes.{last_no, last_yes_lem}
use Rattle.model.proofs.Offers.{least_cons, offer_at, offers-drop}
use Rattle.lane_rows.specs.Layout.{lane_count_lem, block_size, dear, lane_limit, inf, triangle, suffix_base, reach_base, place, row_place, price_place, mark_base, mark_place, lanes_in}
use Rattle.lane_rows.specs.Sheet.{Column, Sheet, part_sums, Mark, reach, front_with, front_from, front, solid, no_column, column_bound}
use Rattle.lane_rows.specs.Tables.{value_of, sum_where, Coded, Lane, Tables}
use Rattle.lane_rows.specs.Rows.{lane, sum_from, sum_lanes, marks_in, Level, SeenRows, Rows, Kept, Put, Stack, FirstRow, next_row, shut_to_lem, stop_row_lem}
use Rattle.lane_rows.proofs.Front.{over, offer_is, front_snoc, decided_nil, column_front}
use Rattle.lane_rows.proofs.Solid.{reach_same, over_same, joined_solid}

-- ---- numbers for prices

-- a number below that for Missing stands for itself as a price
pub value_some : (n : ℕ) → n < inf → value_of n ≡ Sum n
value_some n h = rw (lt-ltb n inf h)

-- a number not below that for Missing stands for Missing
pub value_none : (n : ℕ) → inf ≤ n → value_of n ≡ Missing
value_none n h = rw (le-ltb n inf h)

-- a sum where a number is a price
pub where_some : (n s : ℕ) → n < inf → sum_where n s ≡ Sum s
where_some n s h = rw (lt-ltb n inf h)

-- where the number is no price the sum is Missing
pub where_none : (n s : ℕ) → inf ≤ n → sum_where n s ≡ Missing
where_none n s h = rw (le-ltb n inf h)

-- the lesser number stands for the lesser price
pub value_min : (a b : ℕ) → value_of (min a b) ≡ lower (value_of a) (value_of b)
value_min a b = go (ltb a inf) (ltb b inf) refl refl
  where
    both : (t : Bool) → ltb b a ≡ t → Sum (min a b) ≡ cond t (Sum b) (Sum a)
    both true e = ap Sum (omega (arith, ltb-true b a e))
    both false e = ap Sum (omega (arith, ltb-false b a e))

    go : (s t : Bool) → ltb a inf ≡ s → ltb b inf ≡ t → value_of (min a b) ≡ lower (cond s (Sum a) Missing) (cond t (Sum b) Missing)
    go true true e f = value_some (min a b) (omega (arith, ltb-true a inf e)) ∙ both (ltb b a) refl
    go true false e f = let z : min a b ≡ a = omega (arith, ltb-true a inf e, ltb-false b inf f) in ap value_of z ∙ value_some a (ltb-true a inf e)
    go false true e f = let z : min a b ≡ b = omega (arith, ltb-false a inf e, ltb-true b inf f) in ap value_of z ∙ value_some b (ltb-true b inf f)
    go false false e f = value_none (min a b) (omega (arith, ltb-false a inf e, ltb-false b inf f))

-- the sum of two numbers stands for their prices' sum, and where it is a price, it is within both bounds together
pub value_plus : (a b A B : ℕ) → A + B < inf → (a < inf → a ≤ A) → (b < inf → b ≤ B)
    → (value_of (a + b) ≡ add (value_of a) (value_of b)) × (a + b < inf → a + b ≤ A + B)
value_plus a b A B s l m = (go (ltb a inf) (ltb b inf) refl refl, λ g. omega (arith, l (omega arith), m (omega arith)))
  where
    go : (s t : Bool) → ltb a inf ≡ s → ltb b inf ≡ t → value_of (a + b) ≡ add (cond s (Sum a) Missing) (cond t (Sum b) Missing)
    go true true e f = value_some (a + b) (omega (arith, l (ltb-true a inf e), m (ltb-true b inf f)))
    go true false e f = value_none (a + b) (omega (arith, ltb-false b inf f))
    go false t e f = value_none (a + b) (omega (arith, ltb-false a inf e))

-- the least of two numbers that are Missing or at most b
least : (b x y : ℕ) → (x < inf → x ≤ b) → (y < inf → y ≤ b) → min x y < inf → min x y ≤ b
least b x y f g h = go (ltb x y) refl
  where
    go : (t : Bool) → ltb x y ≡ t → min x y ≤ b
    go true e = omega (arith, ltb-true x y e, f (omega (arith, ltb-true x y e)))
    go false e = omega (arith, ltb-false x y e, g (omega (arith, ltb-false x y e)))

module _ (b : ℕ) (s : b < inf) where
  coded_est : (n : ℕ) (e : Bound) → Coded b n e → value_of n ≡ e
  coded_est n Missing c = value_none n (omega arith)
  coded_est n (Sum x) c = value_some n (omega arith) ∙ ap Sum c.0

  coded_low : (n : ℕ) (e : Bound) → Coded b n e → n < inf → n ≤ b
  coded_low n Missing c h = omega arith
  coded_low n (Sum x) c h = omega arith

  -- a number that stands for a price or for Missing is at most the one for Missing
  pub coded_most : (n : ℕ) (e : Bound) → Coded b n e → n ≤ inf
  coded_most n Missing c = omega arith
  coded_most n (Sum x) c = omega arith

-- the larger of two numbers stands for the larger of their bounds
pub coded_larger : (b x y : ℕ) (d e : Bound) → b ≤ lane_limit → Coded b x d → Coded b y e → Coded b (max x y) (larger d e)
coded_larger b x y Missing Missing h c f = omega arith
coded_larger b x y Missing (Sum v) h c f = omega arith
coded_larger b x y (Sum u) Missing h c f = omega arith
coded_larger b x y (Sum u) (Sum v) h c f = (omega arith, omega arith)

-- fewer openings, no lower price
coded_more : (a b m n : ℕ) (d e : Bound) → m < inf → Coded m a (lower e d) → Coded n b e → a ≤ b
coded_more a b m n d Missing s c f = omega (arith, coded_most m s a (lower Missing d) c)
coded_more a b m n Missing (Sum y) s c f = omega arith
coded_more a b m n (Sum x) (Sum y) s c f = go (ltb x y) refl c
  where
    go : (t : Bool) → ltb x y ≡ t → Coded m a (cond t (Sum x) (Sum y)) → a ≤ b
    go true e c = omega (arith, ltb-true x y e)
    go false e c = omega arith

-- ---- lanes

-- a lane over no rows has the number for Missing
pub lane_nil : (t w : List ℕ) (base j q : ℕ) → lane t w base j q zero ≡ inf
unfolding lane
lane_nil t w base j q = refl

-- a lane over one row more is the least of the lane before and that row's number with the table's
pub lane-suc : (t w : List ℕ) (base j q k : ℕ) → lane t w base j q (suc k) ≡ min (lane t w base j q k) (get_or w (row_place k q) 0 + get_or t (place base j (get_or w (mark_place k) 0) q) 0)
unfolding lane
lane-suc t w base j q k = refl

-- a lane is never above the number for Missing
pub lane_most : (t w : List ℕ) (base j q n : ℕ) → lane t w base j q n ≤ inf
unfolding lane
lane_most t w base j q zero = omega arith
lane_most t w base j q (suc n) = omega (arith, lane_most t w base j q n)

-- opening j and those after it, as a column's part sees them with nothing decided
abbrev pub undecided : List ℤ → Column → ℕ → List Offer
undecided ss col j = drop j (offers ss col.prices [])

module _ (end : ℤ) (ss : List ℤ) (col : Column) (t : List ℕ) (q : ℕ) (la : Lane end ss col t q) where
  -- over the suffix prices: the least over the front
  pub lane_over : (w : List ℕ) (j n : ℕ) → j ≤ length ss → length ss ≤ 64 → ((k : ℕ) → k < n → get_or w (mark_place k) 0 ≤ j) → ((k : ℕ) → k < n → Level (dear * j) (get_or w (row_place k q) 0))
      → value_of (lane t w suffix_base j q n) ≡ over col.life end (marks_in col.first ss w q n) (undecided ss col j)
  unfolding lane marks_in
  lane_over w j zero h s m l = refl
  lane_over w j (suc k) h s m l =
      let d = get_or w (row_place k q) 0 in
      let e = get_or t (place suffix_base j (get_or w (mark_place k) 0) q) 0 in
      let c = la.suffix j (get_or w (mark_place k) 0) (m k (omega arith)) h in
      let x = least_of_lem col.life end (mark_in col.first ss (get_or w (mark_place k) 0)) (undecided ss col j) in
      let v = value_plus d e (dear * j) (dear * (length ss - j)) (omega arith) (l k (omega arith)).some (coded_low (dear * (length ss - j)) (omega arith) e x c) in
      value_min (lane t w suffix_base j q k) (d + e) ∙ ap₂ lower (lane_over w j k h s (λ i g. m i (omega arith)) (λ i g. l i (omega arith))) (v.0 ∙ ap (add (value_of d)) (coded_est (dear * (length ss - j)) (omega arith) e x c))

  -- over the table of reach: the least cost so far from which opening j is in reach
  pub lane-reach : (w : List ℕ) (j n b : ℕ) → j < length ss → b ≤ lane_limit → ((k : ℕ) → k < n → get_or w (mark_place k) 0 ≤ j) → ((k : ℕ) → k < n → Level b (get_or w (row_place k q) 0))
      → (value_of (lane t w reach_base j q n) ≡ reach col.life (marks_in col.first ss w q n) (get_or ss j (pos 0))) × (lane t w reach_base j q n < inf → lane t w reach_base j q n ≤ b)
  unfolding lane marks_in
  lane-reach w j zero b h s m l = (refl, λ g. absurd (omega arith))
  lane-reach w j (suc k) b h s m l =
      let d = get_or w (row_place k q) 0 in
      let e = get_or t (place reach_base j (get_or w (mark_place k) 0) q) 0 in
      let i = lane-reach w j k b h s (λ i g. m i (omega arith)) (λ i g. l i (omega arith)) in
      let v = one d e (within col.life (mark_in col.first ss (get_or w (mark_place k) 0)) (get_or ss j (pos 0))) (la.reach j (get_or w (mark_place k) 0) (m k (omega arith)) h) (l k (omega arith)) in
      (value_min (lane t w reach_base j q k) (d + e) ∙ ap₂ lower i.0 v.0, least b (lane t w reach_base j q k) (d + e) i.1 v.1)
    where
      one : (d e : ℕ) (a : Bool) → e ≡ cond a 0 inf → Level b d → (value_of (d + e) ≡ cond a (value_of d) Missing) × (d + e < inf → d + e ≤ b)
      one d e true f l = let z : d + e ≡ d = omega (arith, f) in (ap value_of z, λ g. omega (arith, l.some (omega (arith, f))))
      one d e false f l = (value_none (d + e) (omega (arith, f)), λ g. absurd (omega (arith, f)))

  -- one opening less: no lane falls
  pub lane_rises : (w : List ℕ) (j n : ℕ) → j < length ss → length ss ≤ 64 → ((k : ℕ) → k < n → get_or w (mark_place k) 0 ≤ j) → lane t w suffix_base j q n ≤ lane t w suffix_base (j + 1) q n
  unfolding lane
  lane_rises w j zero h s m = omega arith
  lane_rises w j (suc k) h s m =
      let i = get_or w (mark_place k) 0 in
      let z : get_or t (place suffix_base j i q) 0 ≤ get_or t (place suffix_base (j + 1) i q) 0 = rises i (m k (omega arith)) in
      omega (arith, lane_rises w j k h s (λ i g. m i (omega arith)))
    where
      all : List Offer
      all = offers ss col.prices []

      rises : (i : ℕ) → i ≤ j → get_or t (place suffix_base j i q) 0 ≤ get_or t (place suffix_base (j + 1) i q) 0
      rises i g =
          let a = mark_in col.first ss i in
          coded_more (get_or t (place suffix_base j i q) 0) (get_or t (place suffix_base (j + 1) i q) 0) (dear * (length ss - j)) (dear * (length ss - (j + 1)))
          (change_at_lem col.life a (offer_at ss col.prices [] j) (least_of_lem col.life end (get_or ss j (pos 0)) (drop (suc j) all))) (least_of_lem col.life end a (drop (suc j) all)) (omega arith)
          (subst (Coded (dear * (length ss - j)) (get_or t (place suffix_base j i q) 0))
          (least_cons col.life end a (drop j all) (offer_at ss col.prices [] j) (drop (suc j) all) (offers-drop ss col.prices [] j h))
          (la.suffix j i g (omega arith)))
          (subst (λ (x : ℕ). Coded (dear * (length ss - (j + 1))) (get_or t (place suffix_base (j + 1) i q) 0) (least_of_lem col.life end a (drop x all))) (add-one j) (la.suffix (j + 1) i (omega arith) (omega arith)))

-- ---- the parts together

module _ (wide : ℕ) where
  rises_from : (u v : ℕ → ℕ) (k q : ℕ) → q + k ≤ wide → ((q : ℕ) → q < wide → u q ≤ v q) → sum_from u q k ≤ sum_from v q k
  unfolding sum_from
  rises_from u v zero q l f = omega arith
  rises_from u v (suc k) q l f = omega (arith, f q (omega arith), rises_from u v k (suc q) (omega arith) f)

  -- where no lane is higher, neither is the sum of the lanes
  pub sum_rises : (u v : ℕ → ℕ) → ((q : ℕ) → q < wide → u q ≤ v q) → sum_lanes wide u ≤ sum_lanes wide v
  sum_rises u v f = rises_from u v wide 0 (omega arith) f

  -- where the lanes are the same, so is their sum
  pub sum_same : (u v : ℕ → ℕ) → ((q : ℕ) → q < wide → u q ≡ v q) → sum_lanes wide u ≡ sum_lanes wide v
  sum_same u v f =
      let a = sum_rises u v (λ q l. omega (arith, f q l)) in
      let b = sum_rises v u (λ q l. omega (arith, f q l)) in
      omega arith

-- one lane more, at the end
sum_snoc : (f : ℕ → ℕ) (q k : ℕ) → sum_from f q (suc k) ≡ sum_from f q k + f (q + k)
unfolding sum_from
sum_snoc f q zero = let z : q + 0 ≡ q = omega arith in rw z (omega arith)
sum_snoc f q (suc k) = let z : q + suc k ≡ suc q + k = omega arith in rw z (omega (arith, sum_snoc f (suc q) k))

-- four lanes more
pub sum_four : (f : ℕ → ℕ) (k : ℕ) → sum_lanes (k * 4 + 4) f ≡ sum_lanes (k * 4) f + f (k * 4) + f (k * 4 + 1) + f (k * 4 + 2) + f (k * 4 + 3)
sum_four f k = omega (arith, next (k * 4), next (k * 4 + 1), next (k * 4 + 2), next (k * 4 + 3), same 1, same 2, same 3)
  where
    next : (n : ℕ) → sum_lanes (n + 1) f ≡ sum_lanes n f + f n
    next n = let z : 0 + n ≡ n = omega arith in ap (λ (x : ℕ). sum_lanes x f) (add-one n) ∙ sum_snoc f 0 n ∙ ap (λ (x : ℕ). sum_lanes n f + f x) z

    same : (i : ℕ) → sum_lanes (k * 4 + i + 1) f ≡ sum_lanes (k * 4 + (i + 1)) f
    same i = let z : k * 4 + i + 1 ≡ k * 4 + (i + 1) = omega arith in ap (λ (x : ℕ). sum_lanes x f) z

-- as many lanes, none above a number
pub sum_most : (f : ℕ → ℕ) (b q k : ℕ) → ((i : ℕ) → f i ≤ b) → sum_from f q k ≤ k * b
unfolding sum_from
sum_most f b q zero h = omega arith
sum_most f b q (suc k) h = omega (arith, h q, sum_most f b (suc q) k h, add-mul k 1 b)

-- the parts together, where each has a price: the lanes' sum
pub parts_sum : (xs : List Column) (q : ℕ) (v : ℕ → ℕ) (g : Column → List Bool → Bound) (p : List Bool) → ((i : ℕ) → i < length xs → g (get_or xs i no_column) p ≡ Sum (v (q + i)))
    → total g xs p ≡ Sum (sum_from v q (length xs))
unfolding sum_from
parts_sum [] q v g p f = refl
parts_sum (x ∷ xs) q v g p f =
    let z : q + 0 ≡ q = omega arith in
    ap₂ add (f 0 (omega arith) ∙ ap (λ (i : ℕ). Sum (v i)) z)
    (parts_sum xs (suc q) v g p (λ i l. let y : q + suc i ≡ suc q + i = omega arith in f (suc i) (omega arith) ∙ ap (λ (i : ℕ). Sum (v i)) y))

-- a sum is there where each of its parts is
pub total_each : (f : Column → List Bool → Bound) (xs : List Column) (p : List Bool) (n : ℕ) → total f xs p ≡ Sum n → (i : ℕ) → i < length xs → (m : ℕ) × (f (get_or xs i no_column) p ≡ Sum m)
total_each f [] p n e i h = absurd (omega arith)
total_each f (x ∷ xs) p n e zero h = let d = split (f x p) (total f xs p) n e in (d.a, d.left)
total_each f (x ∷ xs) p n e (suc i) h = let d = split (f x p) (total f xs p) n e in total_each f xs p d.b d.right i (omega arith)

-- a number that stands for a price is that price, which is below the number for Missing
pub value_sum : (s x : ℕ) → value_of s ≡ Sum x → (s ≡ x) × (x < inf)
value_sum s x e = go (ltb s inf) refl e
  where
    go : (t : Bool) → ltb s inf ≡ t → cond t (Sum s) Missing ≡ Sum x → (s ≡ x) × (x < inf)
    go true f g = let z : s ≡ x = cc in (z, omega (arith, ltb-true s inf f))
    go false f g = absurd (no_sum_lem Missing x refl g)

-- a number that stands for Missing is not below the one for Missing
pub value_missing : (s : ℕ) → value_of s ≡ Missing → inf ≤ s
value_missing s e = go (ltb s inf) refl e
  where
    go : (t : Bool) → ltb s inf ≡ t → cond t (Sum s) Missing ≡ Missing → inf ≤ s
    go true f g = absurd (no_sum_lem (Sum s) s g refl)
    go false f g = ltb-false s inf f

-- the column of lane q
abbrev column_at : Sheet → ℕ → Column
column_at sheet q = get_or sheet.columns q no_column

module _ (sheet : Sheet) (t w : List ℕ) (at : ℕ) (sees : ℕ → List Bool) (n : ℕ) (ta : Tables sheet t) (ro : SeenRows sheet w at sees n) where
  -- a lane's least price
  pub lane_is : at ≤ length sheet.positions → (q : ℕ) → q < lanes_in t → value_of (lane t w suffix_base at q n) ≡ column_bound sheet (column_at sheet q) (sees q)
  lane_is h q l =
      let g : q < length sheet.columns = omega (arith, ta.wide) in
      let col = column_at sheet q in
      lane_over sheet.end sheet.positions col t q (ta.lanes q l) w at n h ta.few ro.marks (λ k m. ro.level k q m g)
      ∙ over_same col.life sheet.end (marks_in col.first sheet.positions w q n) (front sheet.positions col (sees q)) (undecided sheet.positions col at) (ro.fronts q g)
      ∙ ap (λ (j : ℕ). over col.life sheet.end (front sheet.positions col (sees q)) (drop j (offers sheet.positions col.prices []))) (sym (ro.decided q g))
      ∙ sym (column_front sheet col (sees q))

module _ (sheet : Sheet) (t w : List ℕ) (p : List Bool) (n : ℕ) (ta : Tables sheet t) (ro : Rows sheet w p n) (h : length p ≤ length sheet.positions) where
  abbrev lane_at : ℕ → ℕ
  lane_at q = lane t w suffix_base (length p) q n

  -- a lane is its part's least price
  node_lane : (q : ℕ) → q < lanes_in t → value_of (lane_at q) ≡ column_bound sheet (get_or sheet.columns q no_column) p
  node_lane q l = lane_is sheet t w (length p) (λ (q : ℕ). p) n ta ro.seen h q l

  -- the part sums of a node, where each part has a price
  pub node_sum : ((q : ℕ) → q < lanes_in t → (m : ℕ) × (column_bound sheet (get_or sheet.columns q no_column) p ≡ Sum m)) → part_sums sheet p ≡ Sum (sum_lanes (lanes_in t) lane_at)
  node_sum f =
      subst (λ (k : ℕ). part_sums sheet p ≡ Sum (sum_from lane_at 0 k)) ta.wide
      (parts_sum sheet.columns 0 lane_at (column_bound sheet) p (λ i l.
      let g : i < lanes_in t = omega (arith, ta.wide) in
      let z : i ≡ 0 + i = omega arith in
      let m = f i g in
      m.1 ∙ sym (ap Sum (value_sum (lane_at i) m.0 (node_lane i g ∙ m.1)).0) ∙ ap (λ (k : ℕ). Sum (lane_at k)) z))

  -- so where they are there
  pub node_there : (x : ℕ) → part_sums sheet p ≡ Sum x → sum_lanes (lanes_in t) lane_at ≡ x
  node_there x e =
      let s = node_sum (λ q l. total_each (column_bound sheet) sheet.columns p x e q (omega (arith, ta.wide))) in
      sum_inj (part_sums sheet p) (sum_lanes (lanes_in t) lane_at) x s e

  -- the no child's part sums are no lower
  pub node_rises : length p < length sheet.positions → sum_lanes (lanes_in t) (λ (q : ℕ). lane t w suffix_base (length p) q n) ≤ sum_lanes (lanes_in t) (λ (q : ℕ). lane t w suffix_base (length p + 1) q n)
  node_rises l =
      sum_rises (lanes_in t) (λ (q : ℕ). lane t w suffix_base (length p) q n) (λ (q : ℕ). lane t w suffix_base (length p + 1) q n)
      (λ q g. lane_rises sheet.end sheet.positions (get_or sheet.columns q no_column) t q (ta.lanes q g) w (length p) n l ta.few ro.seen.marks)

-- ---- the stack: what is kept, one row more, a no

-- a stack has its own first n rows kept
pub kept_refl : (w : List ℕ) (n : ℕ) → Kept w w n
kept_refl w n = record { size = refl; rows = λ k h. refl; marks = λ k h. refl }

-- rows kept from one stack to the next, and there on to a third, are kept from first to third
pub kept_then : (u v w : List ℕ) (m n : ℕ) → m ≤ n → Kept u v m → Kept v w n → Kept u w m
kept_then u v w m n h a b =
    record { size = b.size ∙ a.size; rows = λ k l. b.rows k (omega arith) ∙ a.rows k l; marks = λ k l. b.marks k (omega arith) ∙ a.marks k l }

-- where the rows are kept, a lane has the same marks with the same prices
pub marks_kept : (first : ℤ) (ss : List ℤ) (w w' : List ℕ) (q m n : ℕ) → q < lane_count_lem → m ≤ n → Kept w w' n → marks_in first ss w' q m ≡ marks_in first ss w q m
unfolding marks_in
marks_kept first ss w w' q zero n l h k = refl
marks_kept first ss w w' q (suc m) n l h k =
    let a = k.marks m (omega arith) in
    let b = k.rows (row_place m q) (omega arith) in
    ap₂ (λ (x : Mark) (y : List Mark). x ∷ y)
    (ap₂ (λ (x y : ℕ). record { at = mark_in first ss x; cost = value_of y }) a b) (marks_kept first ss w w' q m n l (omega arith) k)

-- a number at most another and not equal to it is below it
pub ≠_lt : (k n : ℕ) → (k ≡ n → ⊥) → k ≤ n → k < n
≠_lt k n g l = go (dec_lt k n)
  where
    go : Dec (k < n) → k < n
    go (yes h) = h
    go (no h) = absurd (g (omega (arith, h)))

-- the marks of one row more are that row's position and price in front of those before
pub marks_suc : (first : ℤ) (ss : List ℤ) (w : List ℕ) (q n : ℕ) (a : ℤ) (c : Bound) (fr : List Mark) → mark_in first ss (get_or w (mark_place n) 0) ≡ a → value_of (get_or w (row_place n q) 0) ≡ c → marks_in first ss w q n ≡ fr
    → marks_in first ss w q (suc n) ≡ record { at = a; cost = c } ∷ fr
unfolding marks_in
marks_suc first ss w q n a c fr e f g = λ i. record { at = e i; cost = f i } ∷ g i

-- a row's number that is Missing or within a bound is so for each higher bound
pub level_more : (a b v : ℕ) → a ≤ b → Level a v → Level b v
level_more a b v h l = record { some = λ g. omega (arith, l.some g); most = l.most }

-- ---- rows where each lane sees the decisions in its own way: a no leaves them as they are, a stop adds a row, in which the lanes that it is shut to have Missing. Their fronts have the same solid marks as
-- if there were no stop

-- where the first n rows are kept, they are still those that each lane sees in its own way
pub seen_kept : (sheet : Sheet) (w w' : List ℕ) (at : ℕ) (sees : ℕ → List Bool) (n : ℕ) → SeenRows sheet w at sees n → Kept w w' n → SeenRows sheet w' at sees n
seen_kept sheet w w' at sees n r k =
    record {
      size = k.size ∙ r.size;
      some = r.some;
      few = r.few;
      marks = λ i l. subst (λ (x : ℕ). x ≤ at) (sym (k.marks i l)) (r.marks i l);
      narrow = r.narrow;
      decided = r.decided;
      level = λ i q l g. subst (Level (dear * at)) (sym (k.rows (row_place i q) (omega (arith, r.narrow)))) (r.level i q l g);
      fronts = λ q l. ap solid (marks_kept (get_or sheet.columns q no_column).first sheet.positions w w' q n n (omega (arith, r.narrow)) (omega arith) k) ∙ r.fronts q l;
    }

module _ (sheet : Sheet) (t w : List ℕ) (at : ℕ) (sees : ℕ → List Bool) (n : ℕ) (ta : Tables sheet t) (ro : SeenRows sheet w at sees n) where
  module _ (h : at < length sheet.positions) where
    snoc-at : (q : ℕ) (b : Bool) → q < length sheet.columns → length (snoc (sees q) b) ≡ at + 1
    snoc-at q b l = simp length-append (omega (arith, ro.decided q l))

    front_at : (q : ℕ) (b : Bool) → q < length sheet.columns
        → front sheet.positions (column_at sheet q) (snoc (sees q) b) ≡ front_with (column_at sheet q).life (front sheet.positions (column_at sheet q) (sees q)) (offer_is sheet.positions (column_at sheet q).prices b at)
    front_at q b l =
        front_snoc sheet.positions (column_at sheet q) (sees q) b (omega (arith, ro.decided q l))
        ∙ ap (λ (j : ℕ). front_with (column_at sheet q).life (front sheet.positions (column_at sheet q) (sees q)) (offer_is sheet.positions (column_at sheet q).prices b j)) (ro.decided q l)

    -- a no
    pub seen_no : SeenRows sheet w (at + 1) (λ (q : ℕ). snoc (sees q) false) n
    seen_no =
        record {
          size = ro.size;
          some = ro.some;
          few = omega (arith, ro.few);
          marks = λ k l. omega (arith, ro.marks k l);
          narrow = ro.narrow;
          decided = λ q l. snoc-at q false l;
          level = λ k q l g. level_more (dear * at) (dear * (at + 1)) (get_or w (row_place k q) 0) (omega arith) (ro.level k q l g);
          fronts = λ q l. ro.fronts q l ∙ ap solid (sym (front_at q false l));
        }

    -- a stop: what its row costs a lane, where it is allowed
    abbrev price : ℕ → Bound
    price q = plus (get_or (column_at sheet q).prices at 0) (reach (column_at sheet q).life (front sheet.positions (column_at sheet q) (sees q)) (get_or sheet.positions at (pos 0)))

    next_cost : (q : ℕ) → q < length sheet.columns → (value_of (next_row t w at n q) ≡ price q) × Level (dear * (at + 1)) (next_row t w at n q)
    next_cost q l =
        let col = column_at sheet q in
        let la = ta.lanes q (omega (arith, ta.wide)) in
        let x = lane t w reach_base at q n in
        let y = get_or t (price_place at q) 0 in
        let c = la.cheap at in
        let pr = la.price at h in
        let r = lane-reach sheet.end sheet.positions col t q la w at n (dear * at) h (omega (arith, ta.few)) ro.marks (λ k g. ro.level k q g l) in
        let v = value_plus x y (dear * at) dear (omega (arith, ta.few)) r.1 (λ g. omega (arith, c, pr)) in (
          v.0
              ∙ ap₂ add (r.0 ∙ reach_same col.life (marks_in col.first sheet.positions w q n) (front sheet.positions col (sees q)) (get_or sheet.positions at (pos 0)) (ro.fronts q l)) (value_some y (omega (arith, c, pr)) ∙ ap Sum pr)
              ∙ plus_sum (reach col.life (front sheet.positions col (sees q)) (get_or sheet.positions at (pos 0))) (get_or col.prices at 0),
          record { some = λ g. omega (arith, v.1 g); most = omega (arith, lane_most t w reach_base at q n, c, pr) },
        )

    shut_cost : (shut : Bool) (v b : ℕ) (e : Bound) → (value_of v ≡ e) × Level b v → (value_of (shut_to_lem shut v) ≡ cond (not shut) e Missing) × Level b (shut_to_lem shut v)
    shut_cost true v b e c = (value_none inf (omega arith), record { some = λ g. absurd (omega arith); most = omega arith })
    shut_cost false v b e c = c

    -- with the stop's row put on the stack, a lane that the stop is shut to sees a no, each other a yes
    pub seen_stop : (shut : ℕ → Bool) (w' : List ℕ) → Put (lanes_in t) (stop_row_lem t w at n shut) w w' n (at + 1) → SeenRows sheet w' (at + 1) (λ (q : ℕ). snoc (sees q) (not (shut q))) (n + 1)
    seen_stop shut w' u =
        record {
          size = u.kept.size ∙ ro.size;
          some = omega arith;
          few = omega (arith, ro.few);
          marks = λ k l. mark_at_lem k (omega arith) (ℕ_discrete k n);
          narrow = ro.narrow;
          decided = λ q l. snoc-at q (not (shut q)) l;
          level = λ k q l g. level_at k q (omega arith) g (ℕ_discrete k n);
          fronts = λ q l. fronts_at q l;
        }
      where
        cost : (q : ℕ) → q < length sheet.columns → (value_of (stop_row_lem t w at n shut q) ≡ cond (not (shut q)) (price q) Missing) × Level (dear * (at + 1)) (stop_row_lem t w at n shut q)
        cost q l = shut_cost (shut q) (next_row t w at n q) (dear * (at + 1)) (price q) (next_cost q l)

        mark_at_lem : (k : ℕ) → k ≤ n → Dec (k ≡ n) → get_or w' (mark_place k) 0 ≤ at + 1
        mark_at_lem k l (yes g) = rw g (omega (arith, u.mark))
        mark_at_lem k l (no g) = let z : k < n = omega (arith, ≠_lt k n g l) in omega (arith, u.kept.marks k z, ro.marks k z)

        row_at : (q : ℕ) → q < length sheet.columns → get_or w' (row_place n q) 0 ≡ stop_row_lem t w at n shut q
        row_at q l = u.row q (omega (arith, ta.wide))

        level_at : (k q : ℕ) → k ≤ n → q < length sheet.columns → Dec (k ≡ n) → Level (dear * (at + 1)) (get_or w' (row_place k q) 0)
        level_at k q l m (yes g) = rw g (subst (Level (dear * (at + 1))) (sym (row_at q m)) (cost q m).1)
        level_at k q l m (no g) =
            let z : k < n = ≠_lt k n g l in
            subst (Level (dear * (at + 1))) (sym (u.kept.rows (row_place k q) (omega (arith, ro.narrow)))) (level_more (dear * at) (dear * (at + 1)) (get_or w (row_place k q) 0) (omega arith) (ro.level k q z m))

        fronts_at : (q : ℕ) → q < length sheet.columns → solid (marks_in (column_at sheet q).first sheet.positions w' q (n + 1)) ≡ solid (front sheet.positions (column_at sheet q) (snoc (sees q) (not (shut q))))
        fronts_at q l =
            let col = column_at sheet q in
            let ss = sheet.positions in
            let o = offer_is ss col.prices (not (shut q)) at in
            ap solid
            (ap (marks_in col.first ss w' q) (add-one n)
            ∙ marks_suc col.first ss w' q n (get_or ss at (pos 0)) (cond (not (shut q)) (price q) Missing) (marks_in col.first ss w q n)
            (ap (mark_in col.first ss) (u.mark ∙ add-one at)) (ap value_of (row_at q l) ∙ (cost q l).0)
            (marks_kept col.first ss w w' q n n (omega (arith, ro.narrow)) (omega arith) u.kept))
            ∙ joined_solid col.life (marks_in col.first ss w q n) (front ss col (sees q)) o (ro.fronts q l)
            ∙ ap solid (sym (front_at q (not (shut q)) l))

-- ---- rows that every lane sees as they are

-- where its rows are kept, a stack still has those of the node
pub rows_kept : (sheet : Sheet) (w w' : List ℕ) (p : List Bool) (n : ℕ) → Rows sheet w p n → Kept w w' n → Rows sheet w' p n
rows_kept sheet w w' p n r k =
    record {
      seen = seen_kept sheet w w' (length p) (λ (q : ℕ). p) n r.seen k;
      last = let h = r.seen.some in k.marks (n - 1) (omega arith) ∙ r.last;
    }

-- one decision more
decided_more : (sheet : Sheet) (w : List ℕ) (p : List Bool) (b : Bool) (n : ℕ) → SeenRows sheet w (length p + 1) (λ (q : ℕ). snoc p b) n → SeenRows sheet w (length (snoc p b)) (λ (q : ℕ). snoc p b) n
decided_more sheet w p b n r = let e : length p + 1 ≡ length (snoc p b) = simp length-append in subst (λ (k : ℕ). SeenRows sheet w k (λ (q : ℕ). snoc p b) n) e r

module _ (sheet : Sheet) (t w : List ℕ) (p : List Bool) (n : ℕ) (ta : Tables sheet t) (ro : Rows sheet w p n) (h : length p < length sheet.positions) where
  -- the rows of a node are those of its no child
  pub rows_no : Rows sheet w (snoc p false) n
  rows_no =
      record {
        seen = decided_more sheet w p false n (seen_no sheet t w (length p) (λ (q : ℕ). p) n ta ro.seen h);
        last = ro.last ∙ sym (last_no p);
      }

  -- with the row of the next opening put on top, the rows are those of the yes child
  pub rows_yes : (w' : List ℕ) → Put (lanes_in t) (next_row t w (length p) n) w w' n (length p + 1) → Rows sheet w' (snoc p true) (n + 1)
  rows_yes w' u =
      record {
        seen = decided_more sheet w' p true (n + 1) (seen_stop sheet t w (length p) (λ (q : ℕ). p) n ta ro.seen h (λ (q : ℕ). false) w' u);
        last = let z : n + 1 - 1 ≡ n = omega arith in ap (λ (k : ℕ). get_or w' (mark_place k) 0) z ∙ u.mark ∙ add-one (length p) ∙ sym (last_yes_lem p);
      }

-- ---- the loops

-- a number that is there or nothing is at most the number for nothing
pub cond_most : (b : Bool) → cond b 0 inf ≤ inf
cond_most true = omega arith
cond_most false = omega arith

module _ (sheet : Sheet) (t w : List ℕ) (at : ℕ) (sees : ℕ → List Bool) (n : ℕ) (ta : Tables sheet t) (ro : SeenRows sheet w at sees n) where
  -- the loops over a block of the tables at any opening j from the first undecided one on, where its numbers with the rows' stay within 31 bits
  seen_in : (base j : ℕ) → base + block_size ≤ length t → at ≤ j → j ≤ length sheet.positions
      → ((k q : ℕ) → k < n → q < lanes_in t → get_or w (row_place k q) 0 + get_or t (place base j (get_or w (mark_place k) 0) q) 0 < 2 ^ 31) → Stack (lanes_in t) t w base j n
  seen_in base j room h g sums =
      record {
        some = ta.some;
        narrow = ta.narrow;
        table = room;
        size = ro.size;
        near = omega (arith, ta.few);
        few = omega (arith, ro.few);
        marks = λ k l. omega (arith, ro.marks k l);
        sums = sums;
      }

  -- over the suffix table
  pub seen_stack : (j : ℕ) → at ≤ j → j ≤ length sheet.positions → Stack (lanes_in t) t w suffix_base j n
  seen_stack j h g =
      seen_in suffix_base j (omega (arith, ta.size)) h g
      (λ k q l m.
      let o = ro.marks k l in
      let i = get_or w (mark_place k) 0 in
      let col = get_or sheet.columns q no_column in
      omega (
        arith,
        (ro.level k q l (omega (arith, ta.wide))).most,
        coded_most (dear * (length sheet.positions - j)) (omega (arith, ta.few)) (get_or t (place suffix_base j i q) 0) (least_of_lem col.life sheet.end (mark_in col.first sheet.positions i) (drop j (offers sheet.positions col.prices [])))
            ((ta.lanes q m).suffix j i (omega arith) g),
      ))

  -- over the reach table, where there is an undecided opening
  pub seen_reach : at < length sheet.positions → Stack (lanes_in t) t w reach_base at n
  seen_reach h =
      seen_in reach_base at (omega (arith, ta.size)) (omega arith) (omega arith)
      (λ k q l g.
      omega (
        arith,
        (ro.level k q l (omega (arith, ta.wide))).most,
        cond_most (within (get_or sheet.columns q no_column).life (mark_in (get_or sheet.columns q no_column).first sheet.positions (get_or w (mark_place k) 0)) (get_or sheet.positions at (pos 0))),
        (ta.lanes q g).reach at (get_or w (mark_place k) 0) (ro.marks k l) h,
      ))

module _ (sheet : Sheet) (t w : List ℕ) (p : List Bool) (n : ℕ) (ta : Tables sheet t) (ro : Rows sheet w p n) (h : length p < length sheet.positions) where
  -- the loops over a node's rows and the suffix prices of its no child stay within tables and 31 bits
  pub stack_no : Stack (lanes_in t) t w suffix_base (length p + 1) n
  stack_no = seen_stack sheet t w (length p) (λ (q : ℕ). p) n ta ro.seen (length p + 1) (omega arith) (omega arith)

  -- the loops over a node's rows and the reach of its next opening stay within tables and 31 bits
  pub stack_yes : Stack (lanes_in t) t w reach_base (length p) n
  stack_yes = seen_reach sheet t w (length p) (λ (q : ℕ). p) n ta ro.seen h

-- ---- the first node

-- the first row has its mark at the first place
pub first_mark : {w : List ℕ} → FirstRow w → (k : ℕ) → k < 1 → get_or w (mark_place k) 0 ≤ 0
first_mark {w} r k l = let z : mark_base + k ≡ mark_base = omega arith in let y : get_or w (mark_place k) 0 ≡ 0 = ap (λ (x : ℕ). get_or w x 0) z ∙ r.mark in omega arith

-- its numbers are within any bound
pub first_level : {w : List ℕ} → FirstRow w → (b k q : ℕ) → k < 1 → q < lane_count_lem → Level b (get_or w (row_place k q) 0)
first_level {w} r b k q l g = let z : k * lane_count_lem + q ≡ q = omega arith in let y : get_or w (row_place k q) 0 ≡ 0 = ap (λ (x : ℕ). get_or w x 0) z ∙ r.lanes q g in record { some = λ a. omega arith; most = omega arith }

-- and it is a column's front where nothing is decided
pub first_front : {w : List ℕ} → FirstRow w → (ss : List ℤ) (col : Column) (q : ℕ) → q < lane_count_lem → solid (marks_in col.first ss w q 1) ≡ solid (front ss col [])
unfolding marks_in front_from
first_front {w} r ss col q l =
    let z : 0 * lane_count_lem + q ≡ q = omega arith in
    let y : get_or w (row_place 0 q) 0 ≡ 0 = ap (λ (x : ℕ). get_or w x 0) z ∙ r.lanes q l in
    ap solid
    ((λ i. record { at = mark_in col.first ss (r.mark i); cost = value_of (y i) } ∷ [])
    ∙ sym (ap (front_from col.life (record { at = col.first; cost = Sum 0 } ∷ [])) (decided_nil ss col.prices)))

-- the first row alone is what each lane sees where nothing is decided
pub seen_root : (sheet : Sheet) (w : List ℕ) → length sheet.columns ≤ lane_count_lem → FirstRow w → SeenRows sheet w 0 (λ (q : ℕ). []) 1
seen_root sheet w h r =
    record {
      size = r.size;
      some = omega arith;
      few = omega arith;
      marks = first_mark r;
      narrow = h;
      decided = λ q l. refl;
      level = λ k q l g. first_level r 0 k q l (omega arith);
      fronts = λ q l. first_front r sheet.positions (get_or sheet.columns q no_column) q (omega arith);
    }

-- the row of the first life is that of the first node
pub rows_root : (sheet : Sheet) (w : List ℕ) → length sheet.columns ≤ lane_count_lem → FirstRow w → Rows sheet w [] 1
unfolding last_yes
rows_root sheet w h r = record { seen = seen_root sheet w h r; last = r.mark }

-- where nothing is decided, a lane is the tables' first number for it
module _ (sheet : Sheet) (t : List ℕ) (ta : Tables sheet t) where
  first_place_lem : (q : ℕ) → place suffix_base 0 0 q ≡ q
  unfolding triangle
  first_place_lem q = omega arith

  -- the tables' first number for a lane is at most the one for Missing
  pub first_most : (q : ℕ) → q < lanes_in t → get_or t q 0 ≤ inf
  first_most q l =
      let col = get_or sheet.columns q no_column in
      let n = length sheet.positions in
      subst (λ (k : ℕ). get_or t k 0 ≤ inf) (first_place_lem q)
      (coded_most (dear * (n - 0)) (omega (arith, ta.few)) (get_or t (place suffix_base 0 0 q) 0) (least_of_lem col.life sheet.end (mark_in col.first sheet.positions 0) (drop 0 (offers sheet.positions col.prices [])))
      ((ta.lanes q l).suffix 0 0 (omega arith) (omega arith)))

  first_lane : (w : List ℕ) (q : ℕ) → q < lanes_in t → FirstRow w → get_or t q 0 ≡ lane t w suffix_base 0 q 1
  unfolding lane
  first_lane w q l r =
      let x : 0 * lane_count_lem + q ≡ q = omega arith in
      let y : place suffix_base 0 (get_or w mark_base 0) q ≡ q = ap (λ (k : ℕ). place suffix_base 0 k q) r.mark ∙ first_place_lem q in
      omega (arith, r.lanes q (omega (arith, ta.narrow)), ap (λ (k : ℕ). get_or w k 0) x, ap (λ (k : ℕ). get_or t k 0) y, first_most q l)

  -- at the first node the lanes' sum is that of the tables' first numbers
  pub first_sums_lem : (w : List ℕ) → FirstRow w → sum_lanes (lanes_in t) (λ (q : ℕ). get_or t q 0) ≡ sum_lanes (lanes_in t) (λ (q : ℕ). lane t w suffix_base 0 q 1)
  first_sums_lem w r = sum_same (lanes_in t) (λ (q : ℕ). get_or t q 0) (λ (q : ℕ). lane t w suffix_base 0 q 1) (λ q l. first_lane w q l r)
