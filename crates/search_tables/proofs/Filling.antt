-- The tables, filled, are those of the sheet: a lane is right after its three loops, each lane keeps the others, and what follows keeps the lanes.
use Prim.Native.Nat.{ℕ, zero, suc, ◌+◌, ◌-◌, ◌*◌, ◌<◌, ◌≤◌, min}
use mathlib.Core.Path.{◌≡◌, refl, sym, ap, ap₂, subst, ◌∙◌}
use mathlib.Core.Bool.{Bool, true, cond}
use mathlib.Core.List.{List, [], ◌∷◌}
use native.Mathlib.Omega.{arith}
use native.Mathlib.Decide.{dec_lt}
use borrow.Author.Count.{below_more}
use lib.ListN.{length, get_or, set, take, drop, replicate, length-set, length-drop, length-take, get_or-eq_default}
use lib.Seq.{get_or-take, get_or-drop, get_or-set_same, get_or-set_other}
use lib.IntN.{ℤ, pos, ◌-ℤ◌}
use Rattle.branch.specs.declared.Bound.{Bound}
use Rattle.branch.specs.declared.Bound.TheVariants.{Missing, Sum}
use Rattle.model.specs.Model.{within}
use Rattle.model.specs.LowerBound.{Offer, least_of_lem, offers}
use Rattle.model.specs.LastYes.{Climbs, mark_in}
use Rattle.model.proofs.LastYes.{first_climbs}
use Rattle.base.specs.Signed.{Bits31}
use Rattle.base.specs.Filled.{FilledBy}
use Rattle.least.specs.Suffix.{code_of, Suffixes}
use Rattle.base.proofs.Diff.{mag_sub}
use Rattle.base.proofs.Bools.{after_one, there}
use Rattle.least.proofs.Most.{AtMost, most_least}
use Rattle.held_places.specs.Arrays.{price_stride, price_size, Timed}
use Rattle.search_tables.specs.Arrays.{lane_value_lem, lane_part, column_of, columns_from, fours_of_lem, sheet_of, Arrays}
use Rattle.search_tables.specs.Fill.{Triangle, own_of, reach_of, column, LaneFilled, Lanes}
use Rattle.lane_rows.specs.Layout.{lane_count_lem, mark_count, dear, lane_limit, inf, triangle, block_rows, price_row, lane_rows_lem, suffix_base, reach_base, place, row_place, price_place, fee_base, fee_place, count_place, fours_place, lanes_in, tables_size}
use Rattle.lane_rows.specs.Sheet.{Column, no_column}
use Rattle.lane_rows.specs.Tables.{Coded, Lane, Tables}
use Rattle.lane_rows.proofs.Rising.{row_inside}
use Rattle.model.specs.Limits.{longest_life}

-- the lesser of a bound's own number and that for Missing stands for the bound
pub coded : (b : ℕ) (e : Bound) (v : ℕ) → b ≤ lane_limit → AtMost b e → v ≡ min (code_of e) inf → Coded b v e
coded b Missing v h l f = omega arith
coded b (Sum x) v h l f = (omega arith, l)

-- ---- every opening is allowed

-- among the first of many yes entries, and past them, each entry is yes
pub all_true : (n m k : ℕ) → get_or (take n (replicate m true)) k true ≡ true
all_true zero m k = refl
all_true (suc n) zero k = refl
all_true (suc n) (suc m) zero = refl
all_true (suc n) (suc m) (suc k) = all_true n m k

-- flags that are all true are as good as no decisions
pub offers_all : (ss : List ℤ) (ps : List ℕ) (fs : List Bool) → ((k : ℕ) → get_or fs k true ≡ true) → offers ss ps fs ≡ offers ss ps []
unfolding offers
offers_all [] ps fs h = refl
offers_all (s ∷ ss) ps fs h =
    ap₂ (λ (a : Bool) (l : List Offer). record { position = s; price = get_or ps 0 0; allowed = a } ∷ l) (h 0) (offers_all ss (drop 1 ps) (drop 1 fs) (λ k. after_one fs k true ∙ h (suc k)))

-- ---- the lane, after its three loops

module _ (life end first : ℤ) (ss : List ℤ) (ps : List ℕ) (fs : List Bool) (tab t₀ t₁ t₂ t₃ : List ℕ) (q : ℕ) (few : length ss ≤ 64) (all : (k : ℕ) → get_or fs k true ≡ true) (p : length ps ≡ length ss) (cheap : (j : ℕ) → get_or ps j 0 ≤ dear)
    (s : Suffixes life end first ss ps fs tab 0)
    (w₁ : Triangle (λ (j i : ℕ). place suffix_base j i q) (own_of tab) (length ss + 1) t₀ t₁)
    (w₂ : Triangle (λ (j i : ℕ). place reach_base j i q) (reach_of life first ss) (length ss) t₁ t₂)
    (w₃ : FilledBy (λ (j : ℕ). price_place j q) (λ (j : ℕ). get_or ps j 0) (length ps) t₂ t₃)
    (in_lane : q < lane_count_lem) where
  -- a row of a block, of a level that is there
  inside : (j i : ℕ) → i ≤ j → j ≤ length ss → triangle j + i < block_rows
  inside j i h g = row_inside j i mark_count h (omega arith)

  suffix : (j i : ℕ) → i ≤ j → j ≤ length ss → Coded (dear * (length ss - j)) (get_or t₃ (place suffix_base j i q) 0) (least_of_lem life end (mark_in first ss i) (drop j (offers ss ps [])))
  suffix j i h g =
      let n = inside j i h g in
      coded (dear * (length ss - j)) (least_of_lem life end (mark_in first ss i) (drop j (offers ss ps []))) (get_or t₃ (place suffix_base j i q) 0) (omega arith)
      (most_least dear life end (mark_in first ss i) ss ps [] j cheap)
      (w₃.rest (place suffix_base j i q) (λ x l e. omega (arith, e)) ∙ w₂.rest (place suffix_base j i q) (λ x y l m e. omega (arith, e)) ∙ w₁.done j i h (omega arith)
      ∙ ap (λ (k : ℕ). min k inf) (s.rows j i (omega arith) g h ∙ ap (λ (os : List Offer). code_of (least_of_lem life end (mark_in first ss i) (drop j os))) (offers_all ss ps fs all)))

  reaches : (j i : ℕ) → i ≤ j → j < length ss → get_or t₃ (place reach_base j i q) 0 ≡ cond (within life (mark_in first ss i) (get_or ss j (pos 0))) 0 inf
  reaches j i h g = let n = inside j i h (omega arith) in w₃.rest (place reach_base j i q) (λ y l e. omega (arith, e)) ∙ w₂.done j i h g

  price : (j : ℕ) → j < length ss → get_or t₃ (price_place j q) 0 ≡ get_or ps j 0
  price j h = w₃.done j (omega arith)

  -- after its three loops a lane is right for its column, and nothing else moved
  pub lane_done : LaneFilled end ss (column life first ps) t₀ t₃ q
  lane_done =
      record {
        lane = record { suffix = suffix; reach = reaches; price = price; cheap = cheap };
        size = w₃.size ∙ w₂.size ∙ w₁.size;
        rest = λ x n.
            w₃.rest x (λ j l e. n (price_row + j) (omega arith) (omega (arith, e)))
            ∙ w₂.rest x (λ j i l h e. let m = inside j i l (omega arith) in n (block_rows + (triangle j + i)) (omega arith) (omega (arith, e)))
            ∙ w₁.rest x (λ j i l h e. let m = inside j i l (omega arith) in n (triangle j + i) (omega arith) (omega (arith, e)));
      }

-- a lane that nobody wrote to stays right
pub lane_kept : (end : ℤ) (ss : List ℤ) (col : Column) (t t' : List ℕ) (q : ℕ) → length ss ≤ 64 → ((y : ℕ) → y < lane_rows_lem → get_or t' (row_place y q) 0 ≡ get_or t (row_place y q) 0) → Lane end ss col t q → Lane end ss col t' q
lane_kept end ss col t t' q few k l =
    record {
      suffix = λ j i h g.
          let n = row_inside j i mark_count h (omega arith) in
          let z : place suffix_base j i q ≡ row_place (triangle j + i) q = omega arith in
          let e : get_or t' (place suffix_base j i q) 0 ≡ get_or t (place suffix_base j i q) 0 = rw z (k (triangle j + i) (omega arith)) in
          rw e (l.suffix j i h g);
      reach = λ j i h g.
          let n = row_inside j i mark_count h (omega arith) in
          let z : place reach_base j i q ≡ row_place (block_rows + (triangle j + i)) q = omega arith in
          (rw z (k (block_rows + (triangle j + i)) (omega arith))) ∙ l.reach j i h g;
      price = λ j h. let z : price_place j q ≡ row_place (price_row + j) q = omega arith in (rw z (k (price_row + j) (omega arith))) ∙ l.price j h;
      cheap = l.cheap;
    }

-- ---- all lanes, one after the other

abbrev column_in : List ℤ → List ℕ → List ℕ → List ℕ → ℕ → Column
column_in ss ls rs ps q = column_of (lane_part (length ss) ls rs ps q)

module _ (e : ℤ) (ss : List ℤ) (ls rs ps : List ℕ) where
  -- before the first lane is filled no lane has to be right
  pub lanes_none : (t : List ℕ) → length t ≡ tables_size → Lanes e ss ls rs ps t 0
  lanes_none t h = record { size = h; right = λ r l. absurd (omega arith) }

  -- with lane q filled, one lane more is right, and those before it are kept
  pub lanes_more : (t t' : List ℕ) (q : ℕ) → length ss ≤ 64 → q < lane_count_lem → LaneFilled e ss (column_in ss ls rs ps q) t t' q → Lanes e ss ls rs ps t q → Lanes e ss ls rs ps t' (q + 1)
  lanes_more t t' q few h f l =
      record {
        size = f.size ∙ l.size;
        right = below_more (λ (r : ℕ). Lane e ss (column_in ss ls rs ps r) t' r) q
            (λ r g. lane_kept e ss (column_in ss ls rs ps r) t t' r few (λ y k. f.rest (row_place y r) (λ x m z. omega (arith, z))) (l.right r g))
            f.lane;
      }

-- k columns from q on are k columns
pub columns_length : (n : ℕ) (ls rs ps : List ℕ) (q k : ℕ) → length (columns_from n ls rs ps q k) ≡ k
unfolding columns_from
columns_length n ls rs ps q zero = refl
columns_length n ls rs ps q (suc k) = ap suc (columns_length n ls rs ps (suc q) k)

-- column i of those from q on is that of lane q + i
pub columns_at : (n : ℕ) (ls rs ps : List ℕ) (q k i : ℕ) → i < k → get_or (columns_from n ls rs ps q k) i no_column ≡ column_of (lane_part n ls rs ps (q + i))
unfolding columns_from
columns_at n ls rs ps q zero i h = absurd (omega arith)
columns_at n ls rs ps q (suc k) zero h = let z : q ≡ q + 0 = omega arith in ap (λ (x : ℕ). column_of (lane_part n ls rs ps x)) z
columns_at n ls rs ps q (suc k) (suc i) h = let z : suc q + i ≡ q + suc i = omega arith in columns_at n ls rs ps (suc q) k i (omega arith) ∙ ap (λ (x : ℕ). column_of (lane_part n ls rs ps x)) z

-- what holds of two parts' numbers holds of two lanes'
lane_both : (P : ℕ → ℕ → Type 0) (l m : List ℕ) → length l ≡ length m → ((q : ℕ) → P (get_or l q 0) (get_or m q 0)) → (q : ℕ) → P (lane_value_lem l q) (lane_value_lem m q)
lane_both P l m e f q = go (dec_lt q (length l))
  where
    go : Dec (q < length l) → P (lane_value_lem l q) (lane_value_lem m q)
    go (yes g) = rw (there l q (get_or l 0 0) 0 g, there m q (get_or m 0 0) 0 (omega arith)) (f q)
    go (no g) = rw (get_or-eq_default l (get_or l 0 0) {n = q} (omega (arith, g)), get_or-eq_default m (get_or m 0 0) {n = q} (omega (arith, g))) (f 0)

-- past the last part a lane's number is that of the first
pub past : (l : List ℕ) (q : ℕ) → 0 < length l → length l ≤ q → lane_value_lem l q ≡ lane_value_lem l 0
past l q g k = get_or-eq_default l (get_or l 0 0) {n = q} k ∙ there l 0 0 (get_or l 0 0) g

-- as many lanes as the parts fill, the fees, the number of openings and how many fours there are
pub tables_filled : (e : ℤ) (ss : List ℤ) (fs ls rs ps t u v w : List ℕ) (fours : ℕ) → fours ≡ fours_of_lem (length ls) → Arrays e ss fs ls rs ps → Lanes e ss ls rs ps t (fours * 4)
    → FilledBy fee_place (λ (j : ℕ). get_or fs j 0) (length fs) t u → v ≡ set u count_place (length fs) → w ≡ set v fours_place fours → Tables (sheet_of e ss fs ls rs ps) w
tables_filled e ss fs ls rs ps t u v w fours is ar la a b f =
    record {
      size = long;
      few = ar.few;
      wide = columns_length (length ss) ls rs ps 0 (fours_of_lem (length ls) * 4) ∙ sym (wide ∙ ap (λ (k : ℕ). k * 4) is);
      some = omega (arith, wide, is, ar.lives.some);
      narrow = omega (arith, wide, is, ar.lanes);
      paid = ar.paid;
      lanes = λ q h.
          subst (λ (col : Column). Lane e ss col w q) (sym (column_is q h))
          (lane_kept e ss (column_in ss ls rs ps q) t w q ar.few (λ y m. under (row_place y q) (omega (arith, wide, is, ar.lanes))) (la.right q (omega (arith, wide))));
      fees = λ j h. let few = ar.few in last (fee_place j) (omega arith) ∙ counted (fee_place j) (omega arith) ∙ a.done j (omega (arith, ar.paid));
      fair = ar.fair;
      count = last count_place (omega arith) ∙ ap (λ (l : List ℕ). get_or l count_place 0) b ∙ get_or-set_same u count_place (length fs) 0 (omega (arith, a.size, la.size)) ∙ ar.paid;
      real = omega (arith, wide, is);
      begun = ar.lives.some;
      spare = λ q k h.
          let x = past ls q ar.lives.some k in
          let y = past rs q (omega (arith, ar.lives.some, ar.lives.lefts)) (omega (arith, ar.lives.lefts)) in
          let c = column_is 0 (omega (arith, h)) in
          let d = column_is q h in
          record {
            life = ap (λ (col : Column). col.life) d ∙ ap pos x ∙ sym (ap (λ (col : Column). col.life) c);
            first = ap (λ (col : Column). col.first) d ∙ (λ i. pos (y i) -ℤ pos (x i)) ∙ sym (ap (λ (col : Column). col.first) c);
          };
      climbs = λ q h. subst (λ (col : Column). Climbs e col.first ss) (sym (column_is q h)) (lane_climbs q);
    }
  where
    lane_climbs : (q : ℕ) → Climbs e (pos (lane_value_lem rs q) -ℤ pos (lane_value_lem ls q)) ss
    lane_climbs q = first_climbs e ss (lane_value_lem rs q) (lane_value_lem ls q) (lane_both (λ (x y : ℕ). x ≤ y) rs ls ar.lives.lefts ar.lives.first q) ar.climbs

    long' : length v ≡ tables_size
    long' = ap length b ∙ length-set u count_place (length fs) ∙ a.size ∙ la.size

    long : length w ≡ tables_size
    long = ap length f ∙ length-set v fours_place fours ∙ long'

    wide : lanes_in w ≡ fours * 4
    wide = ap (λ (l : List ℕ). get_or l fours_place 0 * 4) f ∙ ap (λ (k : ℕ). k * 4) (get_or-set_same v fours_place fours 0 (omega (arith, long')))

    column_is : (q : ℕ) → q < lanes_in w → get_or (columns_from (length ss) ls rs ps 0 (fours_of_lem (length ls) * 4)) q no_column ≡ column_in ss ls rs ps q
    column_is q h = let y : 0 + q ≡ q = omega arith in columns_at (length ss) ls rs ps 0 (fours_of_lem (length ls) * 4) q (omega (arith, wide, is)) ∙ ap (column_in ss ls rs ps) y

    -- what stands before the number of fours, and before the number of openings
    last : (x : ℕ) → x < fours_place → get_or w x 0 ≡ get_or v x 0
    last x h = ap (λ (l : List ℕ). get_or l x 0) f ∙ get_or-set_other v fours_place x fours 0 (λ e. omega (arith, e))

    counted : (x : ℕ) → x < count_place → get_or v x 0 ≡ get_or u x 0
    counted x h = ap (λ (l : List ℕ). get_or l x 0) b ∙ get_or-set_other u count_place x (length fs) 0 (λ e. omega (arith, e))

    under : (x : ℕ) → x < fee_base → get_or w x 0 ≡ get_or t x 0
    under x h = last x (omega arith) ∙ counted x (omega arith) ∙ a.rest x (λ y l e. omega (arith, e))

-- ---- a lane's own prices

-- what holds of 0, and of all prices from its own place on, holds of each of them
pub own_each : (P : ℕ → Type 0) (ps : List ℕ) (q n : ℕ) → P 0 → ((j : ℕ) → P (get_or ps (q * price_stride + j) 0)) → (j : ℕ) → P (get_or (take n (drop (q * price_stride) ps)) j 0)
own_each P ps q n z f j = go (dec_lt j n)
  where
    own : List ℕ
    own = take n (drop (q * price_stride) ps)

    go : Dec (j < n) → P (get_or own j 0)
    go (yes g) = subst P (sym (get_or-take n (drop (q * price_stride) ps) j 0 g ∙ get_or-drop (q * price_stride) ps j 0)) (f j)
    go (no g) = subst P (sym (get_or-eq_default own 0 {n = j} (omega (arith, length-take n (drop (q * price_stride) ps), g)))) z

module _ (ps : List ℕ) (q n : ℕ) (h : q < lane_count_lem) (l : n ≤ 64) (s : length ps ≡ price_size) where
  -- the range of the price array that is cut out for lane q has its prices at the n openings
  pub own_is : take (q * price_stride + n - q * price_stride) (drop (q * price_stride) ps) ≡ take n (drop (q * price_stride) ps)
  own_is = let z : q * price_stride + n - q * price_stride ≡ n = omega arith in ap (λ (k : ℕ). take k (drop (q * price_stride) ps)) z

  -- a lane has a price for each of the n openings
  pub own_length : length (take n (drop (q * price_stride) ps)) ≡ n
  own_length = simp (length-take, length-drop) (omega arith)

-- ---- a lane's life and last change

-- a range of the parts' numbers is one of the lanes'
pub lane_range : (l : List ℕ) (b : ℕ) → ((q : ℕ) → get_or l q 0 ≤ b) → (q : ℕ) → lane_value_lem l q ≤ b
lane_range l b f q = go (dec_lt q (length l))
  where
    go : Dec (q < length l) → lane_value_lem l q ≤ b
    go (yes g) = rw (there l q (get_or l 0 0) 0 g) (f q)
    go (no g) = rw (get_or-eq_default l (get_or l 0 0) {n = q} (omega (arith, g))) (f 0)

-- the marks of a part whose life and first life are in range are small
pub marks_small : {e : ℤ} {ss : List ℤ} (life left : ℕ) {f : ℤ} → life ≤ longest_life → left ≤ longest_life → Timed e ss → f ≡ pos left -ℤ pos life → (k : ℕ) → Bits31 (mark_in f ss k)
marks_small life left l r t is zero = rw is (omega (arith, mag_sub (pos left) (pos life), l, r))
marks_small life left l r t is (suc k) = omega (arith, t.near k)
