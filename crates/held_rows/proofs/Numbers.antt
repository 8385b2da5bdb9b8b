-- The sums of lanes that the code takes are the part sums, wherever the term is there: at an opening, after a no, and at a stop with some of its removals decided. And they never fall.
use Prim.Native.Nat.{ℕ, ◌+◌, ◌<◌, ◌≤◌}
use mathlib.Core.Path.{◌≡◌, sym, ap, subst, ◌∙◌}
use mathlib.Core.Bool.{Bool, true, false, cond, not, ◌&&◌}
use mathlib.Core.List.{List, [], ◌∷◌, ◌++◌, map}
use native.Mathlib.Omega.{arith}
use native.Mathlib.Decide.{dec_lt}
use lib.ListN.{length, get_or, length-map, length-take, get_or-map}
use lib.Seq.{get_or-take}
use Rattle.branch.specs.declared.Bound.TheVariants.{Sum}
use Rattle.branch.specs.Search.{snoc}
use Rattle.model.specs.Decisions.{accessible, allows}
use Rattle.model.specs.LowerBound.{least_of_lem, offers}
use Rattle.model.proofs.Unpaid.{there_together}
use Rattle.lane_rows.specs.Layout.{suffix_base, lanes_in}
use Rattle.lane_rows.specs.Sheet.{Column, column_bound, no_column}
use Rattle.lane_rows.specs.Tables.{value_of, Tables}
use Rattle.lane_rows.specs.Rows.{lane, sum_lanes}
use Rattle.lane_rows.proofs.Lanes.{value_sum, sum_rises, lane_rises}
use Rattle.held_rows.specs.Held.{HeldColumn, HeldSheet, column_in, plain, no_lane, needs_of_lem, seen_by, lane_bound, lane_fee, part_lanes, held_sums, held_term, Classed}
use Rattle.held_rows.specs.Rows.{SeenRows}
use Rattle.held_rows.proofs.Seen.{accessible_stays}
use Rattle.held_rows.proofs.Sums.{open_bound, shut_bound, bound_no, bound_stop, bound_there, sum_there, each_fee}
use Rattle.held_rows.proofs.Rows.{lane_is, rows_no}

-- ---- where the term is there, each lane has a price

module _ (sheet : HeldSheet) (fit : Classed sheet) (ds : List (List Bool)) (g : ℕ) (e : held_term sheet ds ≡ Sum g) where
  abbrev lane_at : ℕ → HeldColumn
  lane_at q = get_or sheet.lanes q no_lane

  part_there : (q : ℕ) → q < sheet.parts → (m : ℕ) × (lane_bound sheet ds (lane_at q) [] ≡ Sum m)
  part_there q l =
      let z : q < length (part_lanes sheet) = omega (arith, length-take sheet.parts sheet.lanes, fit.real) in
      let f = each_fee (lane_fee sheet ds) (part_lanes sheet) g e q z in
      bound_there sheet ds (lane_at q) f.0 (ap (λ (x : HeldColumn). lane_fee sheet ds x []) (sym (get_or-take sheet.parts sheet.lanes q no_lane l)) ∙ f.1)

  -- where the term of a node is there, each lane has a least price
  pub lane_there : (q : ℕ) → q < length sheet.lanes → (m : ℕ) × (lane_bound sheet ds (lane_at q) [] ≡ Sum m)
  unfolding column_bound
  lane_there q l = go (dec_lt q sheet.parts)
    where
      go : Dec (q < sheet.parts) → (m : ℕ) × (lane_bound sheet ds (lane_at q) [] ≡ Sum m)
      go (yes a) = part_there q a
      go (no a) =
          let b = part_there 0 fit.some in
          let s = fit.spare q (omega (arith, a)) l in
          let first = lane_at 0 in
          let r = there_together first.column.life sheet.end first.column.first sheet.positions first.column.prices (lane_at q).column.prices (seen_by sheet ds first) b.0 b.1 in
          (r.0, (λ i. least_of_lem (s.0.life i) sheet.end (s.0.first i) (offers sheet.positions (lane_at q).column.prices (map (allows (needs_of_lem sheet (s.1 i))) ds))) ∙ r.1)

  -- so numbers that stand for the lanes' prices have the part sums for their sum
  pub sums_are : (v : ℕ → ℕ) → ((q : ℕ) → q < length sheet.lanes → value_of (v q) ≡ lane_bound sheet ds (lane_at q) []) → held_sums sheet ds ≡ Sum (sum_lanes (length sheet.lanes) v)
  sums_are v h =
      sum_there (lane_bound sheet ds) v sheet.lanes 0
      (λ i l.
      let t = lane_there i l in
      let z : 0 + i ≡ i = omega arith in
      t.1 ∙ ap Sum (sym (value_sum (v i) t.0 (h i l ∙ t.1)).0) ∙ ap (λ (k : ℕ). Sum (v k)) (sym z))

-- ---- the code's lanes

module _ (sheet : HeldSheet) (fit : Classed sheet) (t w : List ℕ) (ta : Tables (plain sheet) t) (bs : List (List Bool)) (n : ℕ) (ro : SeenRows (plain sheet) w (length bs) (λ (q : ℕ). seen_by sheet bs (get_or sheet.lanes q no_lane)) n) where
  abbrev at : ℕ
  at = length bs

  -- the sheet has as many lanes as the tables
  pub wide : length sheet.lanes ≡ lanes_in t
  wide = sym (length-map sheet.lanes column_in) ∙ ta.wide

  column_at_lem : (q : ℕ) → get_or (plain sheet).columns q no_column ≡ (get_or sheet.lanes q no_lane).column
  column_at_lem q = get_or-map column_in sheet.lanes q no_lane

  open-lane : at ≤ length sheet.positions → (q : ℕ) → q < length sheet.lanes → value_of (lane t w suffix_base at q n) ≡ open_bound sheet bs (get_or sheet.lanes q no_lane)
  open-lane h q l =
      lane_is (plain sheet) t w at (λ (q : ℕ). seen_by sheet bs (get_or sheet.lanes q no_lane)) n ta ro h q (omega (arith, wide))
      ∙ ap (λ (col : Column). column_bound (plain sheet) col (seen_by sheet bs (get_or sheet.lanes q no_lane))) (column_at_lem q)

  shut_lane_lem : at < length sheet.positions → (q : ℕ) → q < length sheet.lanes → value_of (lane t w suffix_base (at + 1) q n) ≡ shut_bound sheet bs (get_or sheet.lanes q no_lane)
  shut_lane_lem h q l =
      lane_is (plain sheet) t w (at + 1) (λ (q : ℕ). snoc (seen_by sheet bs (get_or sheet.lanes q no_lane)) false) n ta
      (rows_no (plain sheet) t w at (λ (q : ℕ). seen_by sheet bs (get_or sheet.lanes q no_lane)) n ta ro h) (omega arith) q (omega (arith, wide))
      ∙ ap (λ (col : Column). column_bound (plain sheet) col (snoc (seen_by sheet bs (get_or sheet.lanes q no_lane)) false)) (column_at_lem q)

  -- at an opening
  pub here_sums : at ≤ length sheet.positions → (g : ℕ) → held_term sheet bs ≡ Sum g → held_sums sheet bs ≡ Sum (sum_lanes (lanes_in t) (λ (q : ℕ). lane t w suffix_base at q n))
  here_sums h g e =
      subst (λ (k : ℕ). held_sums sheet bs ≡ Sum (sum_lanes k (λ (q : ℕ). lane t w suffix_base at q n))) wide (sums_are sheet fit bs g e (λ (q : ℕ). lane t w suffix_base at q n) (open-lane h))

  module _ (h : at < length sheet.positions) where
    -- after a no
    pub no_sums_lem : (g : ℕ) → held_term sheet (bs ++ ((false ∷ []) ∷ [])) ≡ Sum g → held_sums sheet (bs ++ ((false ∷ []) ∷ [])) ≡ Sum (sum_lanes (lanes_in t) (λ (q : ℕ). lane t w suffix_base (at + 1) q n))
    no_sums_lem g e =
        subst (λ (k : ℕ). held_sums sheet (bs ++ ((false ∷ []) ∷ [])) ≡ Sum (sum_lanes k (λ (q : ℕ). lane t w suffix_base (at + 1) q n))) wide
        (sums_are sheet fit (bs ++ ((false ∷ []) ∷ [])) g e (λ (q : ℕ). lane t w suffix_base (at + 1) q n) (λ q l. shut_lane_lem h q l ∙ sym (bound_no sheet bs (get_or sheet.lanes q no_lane))))

    -- at a stop: the lanes that it is shut to have the number of a no, the others that of the node before it
    abbrev pub stop_lane : List Bool → ℕ → ℕ
    stop_lane rs q = cond (accessible (needs_of_lem sheet (get_or sheet.lanes q no_lane).class) rs) (lane t w suffix_base at q n) (lane t w suffix_base (at + 1) q n)

    -- where a stop's term is there, its part sums are the sum of its lanes, shut or allowed by its removals
    pub stop_sums : (rs : List Bool) (g : ℕ) → held_term sheet (bs ++ ((true ∷ rs) ∷ [])) ≡ Sum g → held_sums sheet (bs ++ ((true ∷ rs) ∷ [])) ≡ Sum (sum_lanes (lanes_in t) (stop_lane rs))
    stop_sums rs g e =
        subst (λ (k : ℕ). held_sums sheet (bs ++ ((true ∷ rs) ∷ [])) ≡ Sum (sum_lanes k (stop_lane rs))) wide
        (sums_are sheet fit (bs ++ ((true ∷ rs) ∷ [])) g e (stop_lane rs) (λ q l. go q l (accessible (needs_of_lem sheet (get_or sheet.lanes q no_lane).class) rs) ∙ sym (bound_stop sheet bs rs (get_or sheet.lanes q no_lane))))
      where
        go : (q : ℕ) → q < length sheet.lanes → (b : Bool) → value_of (cond b (lane t w suffix_base at q n) (lane t w suffix_base (at + 1) q n)) ≡ cond b (open_bound sheet bs (get_or sheet.lanes q no_lane)) (shut_bound sheet bs (get_or sheet.lanes q no_lane))
        go q l true = open-lane (omega arith) q l
        go q l false = shut_lane_lem h q l

    -- no sum falls
    rises : (q : ℕ) → q < lanes_in t → lane t w suffix_base at q n ≤ lane t w suffix_base (at + 1) q n
    rises q l = lane_rises sheet.end sheet.positions (get_or (plain sheet).columns q no_column) t q (ta.lanes q l) w at n h ta.few ro.marks

    -- the lanes' sum after a no is no lower than before
    pub no_rises : sum_lanes (lanes_in t) (λ (q : ℕ). lane t w suffix_base at q n) ≤ sum_lanes (lanes_in t) (λ (q : ℕ). lane t w suffix_base (at + 1) q n)
    no_rises = sum_rises (lanes_in t) (λ (q : ℕ). lane t w suffix_base at q n) (λ (q : ℕ). lane t w suffix_base (at + 1) q n) rises

    -- the lanes' sum of a stop does not fall where one holding part more stays
    pub stays_rises : (rs : List Bool) → sum_lanes (lanes_in t) (stop_lane rs) ≤ sum_lanes (lanes_in t) (stop_lane (snoc rs false))
    stays_rises rs = sum_rises (lanes_in t) (stop_lane rs) (stop_lane (snoc rs false)) one
      where
        go : (x y : ℕ) (a b : Bool) → x ≤ y → cond a x y ≤ cond (a && b) x y
        go x y true true l = omega arith
        go x y true false l = l
        go x y false b l = omega arith

        one : (q : ℕ) → q < lanes_in t → stop_lane rs q ≤ stop_lane (snoc rs false) q
        one q l =
            let needs = needs_of_lem sheet (get_or sheet.lanes q no_lane).class in
            subst (λ (b : Bool). stop_lane rs q ≤ cond b (lane t w suffix_base at q n) (lane t w suffix_base (at + 1) q n)) (sym (accessible_stays needs rs))
            (go (lane t w suffix_base at q n) (lane t w suffix_base (at + 1) q n) (accessible needs rs) (not (get_or needs (length rs) false)) (rises q l))
