-- E4's term with holders, by the last mark that each class is allowed. Where each part can be kept, its term depends on its last allowed mark and on how many openings are decided: so one number for
-- each class does. It falls as the mark rises, so a stop that becomes shut to more classes raises the term by theirs.
use Prim.Native.Nat.{ℕ, zero, suc, ◌+◌, ◌<◌, ◌≤◌}
use mathlib.Core.Path.{◌≡◌, refl, sym, ap, ap₂, subst, ◌∙◌}
use mathlib.Core.Bool.{Bool, true, false, cond, not, ◌&&◌}
use mathlib.Core.List.{List, [], ◌∷◌, ◌++◌, append-nil}
use native.Mathlib.Omega.{arith}
use native.Mathlib.Decide.{dec_lt}
use borrow.Author.Tests.{eq-eqb, ne_eqb}
use lib.ListN.{length, get_or, drop, length-append, length-take}
use lib.Seq.{get_or-take}
use lib.Dec.{eqb}
use lib.IntN.{ℤ}
use Rattle.branch.specs.declared.Bound.{Bound}
use Rattle.branch.specs.declared.Bound.TheVariants.{Missing, Sum}
use Rattle.branch.specs.Lower.{larger, largest}
use Rattle.branch.specs.Search.{snoc, NoMore}
use Rattle.branch.proofs.Lower.{larger_assoc, larger_comm}
use Rattle.model.specs.Decisions.{accessible}
use Rattle.model.specs.LowerBound.{least_of_lem, offers, undecided_fees}
use Rattle.model.specs.LastYes.{last_yes, Climbs, mark_in}
use Rattle.model.proofs.LastYes.{last_yes_lem, last_alone, later_least}
use Rattle.base.proofs.Integers.{AtMostℤ, at_most}
use Rattle.lane_rows.specs.Sheet.{Column, Sheet, column_bound, column_fee}
use Rattle.lane_rows.specs.Tables.{fee_from}
use Rattle.lane_rows.proofs.Front.{column_yes}
use Rattle.lane_rows.proofs.Terms.{last_most}
use Rattle.held_rows.specs.Held.{Classed, HeldColumn, HeldSheet, plain, no_lane, needs_of_lem, seen, seen_by, part_lanes, lane_bound, lane_fee, held_sums, held_term, largest_to, class_fee, last_for}
use Rattle.held_rows.proofs.Seen.{seen-length, seen_no, seen_yes, seen_stop, accessible_stays}
use Rattle.held_rows.proofs.Sums.{each_there}

-- ---- one part

module _ (sheet : Sheet) (col : Column) (climbs : Climbs sheet.end col.first sheet.positions) (p : List Bool) (n : ℕ) (e : column_bound sheet col p ≡ Sum n) where
  -- at the node itself, and after a no
  pub fee_here : length p ≤ length sheet.positions → column_fee sheet col p ≡ fee_from sheet (length p) (last_yes p) col []
  unfolding column_bound column_fee
  fee_here l =
      ap (λ (d : List Bool). least_of_lem col.life sheet.end col.first (offers sheet.positions (undecided_fees sheet.fees d) d)) (sym (append-nil p))
      ∙ last_alone col.life sheet.end col.first sheet.positions sheet.fees col.prices p 0 n climbs (omega arith) e
      ∙ ap (λ (d : List Bool). fee_from sheet (length d) (last_yes p) col []) (append-nil p)

  -- where a part can be kept, its term after a no is that of its last yes with one opening more decided
  pub fee_no : length p < length sheet.positions → column_fee sheet col (snoc p false) ≡ fee_from sheet (length p + 1) (last_yes p) col []
  unfolding column_bound column_fee
  fee_no l =
      let z : length (snoc p false) ≡ length p + 1 = simp length-append in
      last_alone col.life sheet.end col.first sheet.positions sheet.fees col.prices p 1 n climbs (omega arith) e ∙ ap (λ (j : ℕ). fee_from sheet j (last_yes p) col []) z

-- after a yes
pub fee_yes : (sheet : Sheet) (col : Column) → Climbs sheet.end col.first sheet.positions → (p : List Bool) (n : ℕ) → column_bound sheet col p ≡ Sum n → length p < length sheet.positions
    → column_fee sheet col (snoc p true) ≡ fee_from sheet (length p + 1) (length p + 1) col []
fee_yes sheet col climbs p n e l =
    let z : length (snoc p true) ≡ length p + 1 = simp length-append in
    let y : suc (length p) ≡ length p + 1 = omega arith in
    fee_here sheet col climbs (snoc p true) n (sym (column_yes sheet col p) ∙ e) (omega (arith, z)) ∙ ap₂ (λ (j i : ℕ). fee_from sheet j i col []) z (last_yes_lem p ∙ y)

-- the later the mark, the less is left to pay
mark_rises : (end first : ℤ) (ss : List ℤ) → Climbs end first ss → (i k : ℕ) → i ≤ k → k ≤ length ss → AtMostℤ (mark_in first ss i) (mark_in first ss k)
mark_rises end first ss c zero zero h l = omega arith
mark_rises end first ss c (suc i) zero h l = absurd (omega arith)
mark_rises end first [] c i (suc k) h l = absurd (omega arith)
mark_rises end first (s ∷ ss) c zero (suc k) h l = omega (arith, at_most first s c.0, mark_rises end s ss c.1 zero k (omega arith) (omega arith))
mark_rises end first (s ∷ ss) c (suc i) (suc k) h l = mark_rises end s ss c.1 i k (omega arith) (omega arith)

-- the later a part's last mark, the less is its least fee
pub fee_falls : (sheet : Sheet) (col : Column) → Climbs sheet.end col.first sheet.positions → (j i k : ℕ) → i ≤ k → k ≤ length sheet.positions → NoMore (fee_from sheet j k col []) (fee_from sheet j i col [])
fee_falls sheet col c j i k h l =
    later_least col.life sheet.end (mark_in col.first sheet.positions i) (mark_in col.first sheet.positions k) (drop j (offers sheet.positions sheet.fees []))
    (mark_rises sheet.end col.first sheet.positions c i k h l)

-- ---- the largest of several

larger_0 : (x : Bound) → larger x (Sum 0) ≡ x
larger_0 Missing = refl
larger_0 (Sum a) = ap Sum (omega arith)

larger_swap : (a b c d : Bound) → larger (larger a b) (larger c d) ≡ larger (larger a c) (larger b d)
larger_swap a b c d =
    sym (larger_assoc a b (larger c d)) ∙ ap (larger a) (larger_assoc b c d ∙ ap (λ (x : Bound). larger x d) (larger_comm b c) ∙ sym (larger_assoc c b d)) ∙ larger_assoc a c (larger b d)

-- the second, where the first is no more
larger_is : (a b : Bound) → NoMore a b → larger a b ≡ b
larger_is Missing Missing h = refl
larger_is Missing (Sum b) h = absurd h
larger_is (Sum a) Missing h = refl
larger_is (Sum a) (Sum b) h = ap Sum (omega arith)

largest_each : (f g : HeldColumn → List Bool → Bound) (xs : List HeldColumn) → ((i : ℕ) → i < length xs → f (get_or xs i no_lane) [] ≡ g (get_or xs i no_lane) []) → largest f xs [] ≡ largest g xs []
largest_each f g [] h = refl
largest_each f g (x ∷ xs) h = ap₂ larger (h 0 (omega arith)) (largest_each f g xs (λ i l. h (suc i) (omega arith)))

largest-larger : (f g : HeldColumn → List Bool → Bound) (xs : List HeldColumn) → largest (λ (x : HeldColumn) (p : List Bool). larger (f x p) (g x p)) xs [] ≡ larger (largest f xs []) (largest g xs [])
largest-larger f g [] = refl
largest-larger f g (x ∷ xs) = ap (larger (larger (f x []) (g x []))) (largest-larger f g xs) ∙ larger_swap (f x []) (g x []) (largest f xs []) (largest g xs [])

-- ---- by classes

to_larger : (f g : ℕ → Bound) (k : ℕ) → larger (largest_to f k) (largest_to g k) ≡ largest_to (λ (c : ℕ). larger (f c) (g c)) k
unfolding largest_to
to_larger f g zero = refl
to_larger f g (suc k) = larger_swap (largest_to f k) (f k) (largest_to g k) (g k) ∙ ap (λ (x : Bound). larger x (larger (f k) (g k))) (to_larger f g k)

to_0 : (k : ℕ) → largest_to (λ (c : ℕ). Sum 0) k ≡ Sum 0
unfolding largest_to
to_0 zero = refl
to_0 (suc k) = ap (λ (x : Bound). larger x (Sum 0)) (to_0 k)

-- one class alone
to_one : (H : ℕ → Bound) (m k : ℕ) → (k ≤ m → largest_to (λ (c : ℕ). cond (eqb m c) (H c) (Sum 0)) k ≡ Sum 0) × (m < k → largest_to (λ (c : ℕ). cond (eqb m c) (H c) (Sum 0)) k ≡ H m)
unfolding largest_to
to_one H m zero = (λ h. refl, λ h. absurd (omega arith))
to_one H m (suc k) = let r = to_one H m k in (
  λ h. ap₂ larger (r.0 (omega arith)) (ap (λ (b : Bool). cond b (H k) (Sum 0)) (ne_eqb m k (λ e. omega arith))),
  λ h. go (dec_lt m k) h r,
)
  where
    go : Dec (m < k) → m < suc k → (k ≤ m → largest_to (λ (c : ℕ). cond (eqb m c) (H c) (Sum 0)) k ≡ Sum 0) × (m < k → largest_to (λ (c : ℕ). cond (eqb m c) (H c) (Sum 0)) k ≡ H m)
        → larger (largest_to (λ (c : ℕ). cond (eqb m c) (H c) (Sum 0)) k) (cond (eqb m k) (H k) (Sum 0)) ≡ H m
    go (yes l) h r = ap₂ larger (r.1 l) (ap (λ (b : Bool). cond b (H k) (Sum 0)) (ne_eqb m k (λ e. omega arith))) ∙ larger_0 (H m)
    go (no l) h r =
        let e : m ≡ k = omega (arith, l) in
        ap₂ larger (r.0 (omega (arith, l))) (ap (λ (b : Bool). cond b (H k) (Sum 0)) (eq-eqb m k e)) ∙ larger_comm (Sum 0) (H k) ∙ larger_0 (H k) ∙ ap H (sym e)

-- the largest over the lanes is the largest over the classes of the largest over a class's lanes
by_classes : (F : ℕ → HeldColumn → Bound) (k : ℕ) (xs : List HeldColumn) → ((i : ℕ) → i < length xs → (get_or xs i no_lane).class < k)
    → largest (λ (x : HeldColumn) (p : List Bool). F x.class x) xs [] ≡ largest_to (λ (c : ℕ). largest (λ (x : HeldColumn) (p : List Bool). cond (eqb x.class c) (F c x) (Sum 0)) xs []) k
by_classes F k [] h = sym (to_0 k)
by_classes F k (x ∷ xs) h =
    ap₂ larger (sym ((to_one (λ (c : ℕ). F c x) x.class k).1 (h 0 (omega arith)))) (by_classes F k xs (λ i l. h (suc i) (omega arith)))
    ∙ to_larger (λ (c : ℕ). cond (eqb x.class c) (F c x) (Sum 0)) (λ (c : ℕ). largest (λ (x : HeldColumn) (p : List Bool). cond (eqb x.class c) (F c x) (Sum 0)) xs []) k

-- ---- the term of a node

module _ (sheet : HeldSheet) (fit : Classed sheet) (bs : List (List Bool)) where
  abbrev count : ℕ
  count = length bs

  -- the term of a lane after mark i, j openings decided
  abbrev lanes_fee : ℕ → ℕ → HeldColumn → Bound
  lanes_fee j i lane = fee_from (plain sheet) j i lane.column []

  part_class : (i : ℕ) → i < length (part_lanes sheet) → (get_or (part_lanes sheet) i no_lane).class < length sheet.needs
  part_class i l =
      let z : i < sheet.parts = omega (arith, length-take sheet.parts sheet.lanes) in
      subst (λ (lane : HeldColumn). lane.class < length sheet.needs) (sym (get_or-take sheet.parts sheet.lanes i no_lane z)) (fit.classes i (omega (arith, fit.real)))

  -- by classes, where `last` says the last mark of each
  classes_fee : (j : ℕ) (last : ℕ → ℕ) → largest (λ (lane : HeldColumn) (p : List Bool). lanes_fee j (last lane.class) lane) (part_lanes sheet) [] ≡ largest_to (λ (c : ℕ). class_fee sheet j (last c) c) (length sheet.needs)
  unfolding class_fee
  classes_fee j last =
      by_classes (λ (c : ℕ) (lane : HeldColumn). lanes_fee j (last c) lane) (length sheet.needs) (part_lanes sheet) part_class

  -- a class that needs the part at hand adds its own
  needing_fee : (j : ℕ) (last : ℕ → ℕ) (needing : ℕ → Bool)
      → largest (λ (lane : HeldColumn) (p : List Bool). cond (needing lane.class) (lanes_fee j (last lane.class) lane) (Sum 0)) (part_lanes sheet) []
      ≡ largest_to (λ (c : ℕ). cond (needing c) (class_fee sheet j (last c) c) (Sum 0)) (length sheet.needs)
  unfolding class_fee
  needing_fee j last needing =
      by_classes (λ (c : ℕ) (lane : HeldColumn). cond (needing c) (lanes_fee j (last c) lane) (Sum 0)) (length sheet.needs) (part_lanes sheet) part_class
      ∙ (λ k. largest_to (λ (c : ℕ). go c (needing c) k) (length sheet.needs))
    where
      none : (c : ℕ) (xs : List HeldColumn) → largest (λ (lane : HeldColumn) (p : List Bool). cond (eqb lane.class c) (Sum 0) (Sum 0)) xs [] ≡ Sum 0
      none c [] = refl
      none c (x ∷ xs) = ap₂ larger (by (eqb x.class c)) (none c xs)
        where
          by : (b : Bool) → cond b (Sum 0) (Sum 0) ≡ Sum 0
          by true = refl
          by false = refl

      go : (c : ℕ) (b : Bool) → largest (λ (lane : HeldColumn) (p : List Bool). cond (eqb lane.class c) (cond b (lanes_fee j (last c) lane) (Sum 0)) (Sum 0)) (part_lanes sheet) []
          ≡ cond b (largest (λ (lane : HeldColumn) (p : List Bool). cond (eqb lane.class c) (lanes_fee j (last c) lane) (Sum 0)) (part_lanes sheet) []) (Sum 0)
      go c true = refl
      go c false = none c (part_lanes sheet)

  -- where the lanes can be kept
  module _ (x : ℕ) (sums : held_sums sheet bs ≡ Sum x) where
    record Part (lane : HeldColumn) : Type 0 where
      climbs : Climbs sheet.end lane.column.first sheet.positions
      price : ℕ
      there : column_bound (plain sheet) lane.column (seen_by sheet bs lane) ≡ Sum price

    part : (i : ℕ) → i < length (part_lanes sheet) → Part (get_or (part_lanes sheet) i no_lane)
    part i l =
        let z : i < sheet.parts = omega (arith, length-take sheet.parts sheet.lanes) in
        let y : i < length sheet.lanes = omega (arith, fit.real) in
        let e = each_there (lane_bound sheet bs) sheet.lanes x sums i y in
        subst Part (sym (get_or-take sheet.parts sheet.lanes i no_lane z)) (record { climbs = fit.climbs i y; price = e.0; there = e.1 })

    module _ (few : count < length sheet.positions) where
      -- a lane's term where the next opening is shut to it, and where it is allowed
      shut_fee : (i : ℕ) → i < length (part_lanes sheet) → let lane = get_or (part_lanes sheet) i no_lane in column_fee (plain sheet) lane.column (snoc (seen_by sheet bs lane) false) ≡ lanes_fee (count + 1) (last_for sheet bs lane.class) lane
      shut_fee i l =
          let lane = get_or (part_lanes sheet) i no_lane in
          let s = seen-length (needs_of_lem sheet lane.class) bs in
          let k = part i l in
          fee_no (plain sheet) lane.column k.climbs (seen_by sheet bs lane) k.price k.there (omega (arith, s)) ∙ ap (λ (j : ℕ). lanes_fee (j + 1) (last_for sheet bs lane.class) lane) s

      open-fee : (i : ℕ) → i < length (part_lanes sheet) → let lane = get_or (part_lanes sheet) i no_lane in column_fee (plain sheet) lane.column (snoc (seen_by sheet bs lane) true) ≡ lanes_fee (count + 1) (count + 1) lane
      open-fee i l =
          let lane = get_or (part_lanes sheet) i no_lane in
          let s = seen-length (needs_of_lem sheet lane.class) bs in
          let k = part i l in
          fee_yes (plain sheet) lane.column k.climbs (seen_by sheet bs lane) k.price k.there (omega (arith, s)) ∙ ap (λ (j : ℕ). lanes_fee (j + 1) (j + 1) lane) s

      -- after a no
      pub term_no : held_term sheet (bs ++ ((false ∷ []) ∷ [])) ≡ largest_to (λ (c : ℕ). class_fee sheet (count + 1) (last_for sheet bs c) c) (length sheet.needs)
      term_no =
          largest_each (lane_fee sheet (bs ++ ((false ∷ []) ∷ []))) (λ (lane : HeldColumn) (p : List Bool). lanes_fee (count + 1) (last_for sheet bs lane.class) lane) (part_lanes sheet)
          (λ i l. let lane = get_or (part_lanes sheet) i no_lane in ap (column_fee (plain sheet) lane.column) (seen_no (needs_of_lem sheet lane.class) bs) ∙ shut_fee i l)
          ∙ classes_fee (count + 1) (last_for sheet bs)

      -- after a yes: every last mark is the opening just decided
      pub term_yes : held_term sheet (bs ++ ((true ∷ []) ∷ [])) ≡ largest_to (λ (c : ℕ). class_fee sheet (count + 1) (count + 1) c) (length sheet.needs)
      term_yes =
          largest_each (lane_fee sheet (bs ++ ((true ∷ []) ∷ []))) (λ (lane : HeldColumn) (p : List Bool). lanes_fee (count + 1) (count + 1) lane) (part_lanes sheet)
          (λ i l. let lane = get_or (part_lanes sheet) i no_lane in ap (column_fee (plain sheet) lane.column) (seen_yes (needs_of_lem sheet lane.class) bs) ∙ open-fee i l)
          ∙ classes_fee (count + 1) (λ (c : ℕ). count + 1)

      -- at a stop with some removals decided
      stop_fee : (rs : List Bool) (i : ℕ) → i < length (part_lanes sheet) → let lane = get_or (part_lanes sheet) i no_lane in
          lane_fee sheet (bs ++ ((true ∷ rs) ∷ [])) lane [] ≡ cond (accessible (needs_of_lem sheet lane.class) rs) (lanes_fee (count + 1) (count + 1) lane) (lanes_fee (count + 1) (last_for sheet bs lane.class) lane)
      stop_fee rs i l =
          let lane = get_or (part_lanes sheet) i no_lane in
          ap (column_fee (plain sheet) lane.column) (seen_stop (needs_of_lem sheet lane.class) bs rs) ∙ go (accessible (needs_of_lem sheet lane.class) rs)
        where
          go : (b : Bool) → let lane = get_or (part_lanes sheet) i no_lane in column_fee (plain sheet) lane.column (snoc (seen_by sheet bs lane) b) ≡ cond b (lanes_fee (count + 1) (count + 1) lane) (lanes_fee (count + 1) (last_for sheet bs lane.class) lane)
          go true = open-fee i l
          go false = shut_fee i l

      -- one part that is not removed: the classes that need it fall back to their last mark
      pub term_stays : (rs : List Bool) → held_term sheet (bs ++ ((true ∷ snoc rs false) ∷ []))
          ≡ larger (held_term sheet (bs ++ ((true ∷ rs) ∷ []))) (largest_to (λ (c : ℕ). cond (get_or (needs_of_lem sheet c) (length rs) false) (class_fee sheet (count + 1) (last_for sheet bs c) c) (Sum 0)) (length sheet.needs))
      term_stays rs =
          largest_each (lane_fee sheet (bs ++ ((true ∷ snoc rs false) ∷ [])))
          (λ (lane : HeldColumn) (p : List Bool). larger (lane_fee sheet (bs ++ ((true ∷ rs) ∷ [])) lane p) (cond (get_or (needs_of_lem sheet lane.class) (length rs) false) (lanes_fee (count + 1) (last_for sheet bs lane.class) lane) (Sum 0)))
          (part_lanes sheet) one
          ∙ largest-larger (lane_fee sheet (bs ++ ((true ∷ rs) ∷ []))) (λ (lane : HeldColumn) (p : List Bool). cond (get_or (needs_of_lem sheet lane.class) (length rs) false) (lanes_fee (count + 1) (last_for sheet bs lane.class) lane) (Sum 0)) (part_lanes sheet)
          ∙ ap (larger (held_term sheet (bs ++ ((true ∷ rs) ∷ [])))) (needing_fee (count + 1) (last_for sheet bs) (λ (c : ℕ). get_or (needs_of_lem sheet c) (length rs) false))
        where
          shut : (a b : Bound) (c n : Bool) → NoMore a b → cond (c && not n) a b ≡ larger (cond c a b) (cond n b (Sum 0))
          shut a b true true h = sym (larger_is a b h)
          shut a b true false h = sym (larger_0 a)
          shut a b false true h = sym (larger_is b b (same b))
            where
              same : (y : Bound) → NoMore y y
              same Missing = tt
              same (Sum y) = omega arith
          shut a b false false h = sym (larger_0 b)

          one : (i : ℕ) → i < length (part_lanes sheet) → let lane = get_or (part_lanes sheet) i no_lane in
              lane_fee sheet (bs ++ ((true ∷ snoc rs false) ∷ [])) lane []
              ≡ larger (lane_fee sheet (bs ++ ((true ∷ rs) ∷ [])) lane []) (cond (get_or (needs_of_lem sheet lane.class) (length rs) false) (lanes_fee (count + 1) (last_for sheet bs lane.class) lane) (Sum 0))
          one i l =
              let lane = get_or (part_lanes sheet) i no_lane in
              let needs = needs_of_lem sheet lane.class in
              let a = lanes_fee (count + 1) (count + 1) lane in
              let b = lanes_fee (count + 1) (last_for sheet bs lane.class) lane in
              let n = get_or needs (length rs) false in
              stop_fee (snoc rs false) i l
              ∙ ap (λ (y : Bool). cond y a b) (accessible_stays needs rs)
              ∙ shut a b (accessible needs rs) n (fee_falls (plain sheet) lane.column (part i l).climbs (count + 1) (last_for sheet bs lane.class) (count + 1) (omega (arith, last_most (seen needs bs), seen-length needs bs)) (omega (arith, few)))
              ∙ ap (λ (y : Bound). larger y (cond n b (Sum 0))) (sym (stop_fee rs i l))

-- where nothing is decided every class's last mark is that of the first life
pub term_root : (sheet : HeldSheet) → Classed sheet → held_term sheet [] ≡ largest_to (λ (c : ℕ). class_fee sheet 0 0 c) (length sheet.needs)
unfolding column_fee undecided_fees
term_root sheet fit =
    largest_each (lane_fee sheet []) (λ (lane : HeldColumn) (p : List Bool). fee_from (plain sheet) 0 0 lane.column []) (part_lanes sheet) (λ i l. refl)
    ∙ classes_fee sheet fit [] 0 (λ (c : ℕ). 0)
