-- The tables that are filled from the prices with all shares are those of the walk by the shares kept.
use Prim.Native.Nat.{ℕ, zero, suc, ◌+◌, ◌*◌, ◌/◌, ◌%◌, ◌<◌, ◌≤◌}
use mathlib.Core.Path.{◌≡◌, refl, sym, ap, ap₂, subst, ◌∙◌}
use mathlib.Core.Bool.{Bool, true, cond}
use mathlib.Core.List.{List, [], ◌∷◌}
use native.Mathlib.Omega.{arith}
use native.Mathlib.Decide.{dec_lt}
use borrow.Author.Tests.{le-ltb}
use lib.ListN.{length, get_or, take, drop, length-take, length-drop, get_or-eq_default}
use lib.Seq.{get_or-take, get_or-drop}
use lib.IntN.{ℤ, pos, negsuc, ◌-ℤ◌}
use lib.Signed.{mag}
use Rattle.branch.specs.declared.Bound.{Bound}
use Rattle.branch.specs.declared.Bound.TheVariants.{Missing, Sum}
use Rattle.model.specs.Limits.{last_position, longest_life}
use Rattle.model.specs.Model.{Job, sum, positions, end, within}
use Rattle.model.specs.Decisions.{Held, held_parts, places_in}
use Rattle.model.specs.LowerBound.{Offer, least_of_lem, lower, change_at_lem, offers}
use Rattle.base.proofs.Bools.{there}
use Rattle.model.proofs.Lists.{table_same, table_list}
use Rattle.model.proofs.Sums.{sum_same}
use Rattle.base.proofs.Integers.{at_most_test, difference}
use Rattle.shares.specs.Shares.{Shares, bears, owes, shared_prices}
use Rattle.shares.specs.Sources.{mark_of, rest_at}
use Rattle.base.specs.Filled.{FilledBy}
use Rattle.held_places.specs.Arrays.{HeldJobArrays}
use Rattle.held_places.proofs.Held.{opened, holding, held_size_lem}
use Rattle.held_tables.specs.Arrays.{HeldArrays}
use Rattle.search_tables.specs.Arrays.{lane_value_lem, lane_part, column_of, sheet_of, Arrays}
use Rattle.search_tables.proofs.Filling.{columns_length, columns_at}
use Rattle.lane_rows.specs.Layout.{lane_count_lem, dear, top, lanes_in}
use Rattle.lane_rows.specs.Sheet.{Column}
use Rattle.lane_rows.specs.Tables.{Lane, Tables}
use Rattle.share_rows.specs.Places.{bear_place, removal_place, holds_place}
use Rattle.share_rows.specs.Tables as share
use Rattle.share_rows.specs.Tables.{lane_at, Lanes, SharedTables, ShareTable}
use Rattle.fair_shares.specs.Checked.{shares_in, Kept, Marked}
use Rattle.share_tables.specs.Prepared.{spare_held, lanes_of, Padded, borne_at_lem, shared_in, Roomy, Prepared}
use Rattle.share_tables.proofs.Fair as fair

-- ---- lives

-- what holds of each part's number, and of the longest life, holds of each lane's
padded_each : (P : ℕ → Type 0) (ls r : List ℕ) → Padded ls r → P 0 → P longest_life → ((q : ℕ) → P (get_or ls q 0)) → (q : ℕ) → P (get_or r q 0)
padded_each P ls r p z l f q = go (dec_lt q lane_count_lem)
  where
    real : Dec (q < length ls) → P (get_or ls q longest_life)
    real (yes h) = subst P (there ls q 0 longest_life h) (f q)
    real (no h) = subst P (sym (get_or-eq_default ls longest_life {n = q} (omega arith))) l

    go : Dec (q < lane_count_lem) → P (get_or r q 0)
    go (yes h) = subst P (sym (p.lives q h)) (real (dec_lt q (length ls)))
    go (no h) = subst P (sym (get_or-eq_default r 0 {n = q} (omega (arith, p.size)))) z

padded_first : (ls rs long first : List ℕ) → length rs ≡ length ls → Padded ls long → Padded rs first → ((q : ℕ) → get_or rs q 0 ≤ get_or ls q 0) → (q : ℕ) → get_or first q 0 ≤ get_or long q 0
padded_first ls rs long first e p r f q = go (dec_lt q lane_count_lem) (dec_lt q (length ls))
  where
    go : Dec (q < lane_count_lem) → Dec (q < length ls) → get_or first q 0 ≤ get_or long q 0
    go (yes h) (yes l) = omega (arith, p.lives q h, r.lives q h, f q, there ls q 0 longest_life l, there rs q 0 longest_life (omega (arith, e)))
    go (yes h) (no l) = omega (arith, p.lives q h, r.lives q h, get_or-eq_default ls longest_life {n = q} (omega arith), get_or-eq_default rs longest_life {n = q} (omega (arith, e)))
    go (no h) l = omega (arith, get_or-eq_default first 0 {n = q} (omega (arith, r.size)))

-- ---- the arrays with sixteen lanes

module _ (e : ℤ) (ss : List ℤ) (fs ls rs ps : List ℕ) (ar : Arrays e ss fs ls rs ps) (long first : List ℕ) (pl : Padded ls long) (pf : Padded rs first) where
  -- the job's arrays with lives and first lives padded to sixteen lanes, and any prices in range, are arrays again
  pub wide_arrays : (qs : List ℕ) → length qs ≡ 1024 → ((j : ℕ) → get_or qs j 0 ≤ dear) → Arrays e ss fs long first qs
  wide_arrays qs size cheap =
      record {
        few = ar.few;
        paid = ar.paid;
        lives = record {
          some = omega (arith, pl.size);
          lefts = pf.size ∙ sym pl.size;
          brief = padded_each (λ (n : ℕ). n ≤ longest_life) ls long pl (omega arith) (omega arith) ar.lives.brief;
          begun = padded_each (λ (n : ℕ). n ≤ longest_life) rs first pf (omega arith) (omega arith) ar.lives.begun;
          first = padded_first ls rs long first ar.lives.lefts pl pf ar.lives.first;
        };
        lanes = omega (arith, pl.size);
        prices = size;
        fair = ar.fair;
        cheap = cheap;
        free = λ j h. get_or-eq_default qs 0 {n = j} (omega (arith, h, size, pl.size));
        near = ar.near;
        late = ar.late;
        climbs = ar.climbs;
      }

  -- a lane's life is its part's, and past the last part the longest
  pub lane_life_lem : (q : ℕ) → q < lane_count_lem → lane_value_lem long q ≡ get_or ls q longest_life
  lane_life_lem q h = sym (there long q 0 (get_or long 0 0) (omega (arith, pl.size))) ∙ pl.lives q h

  -- a lane's first life is its part's, and past the last part the longest
  pub lane_left : (q : ℕ) → q < lane_count_lem → lane_value_lem first q ≡ get_or rs q longest_life
  lane_left q h = sym (there first q 0 (get_or first 0 0) (omega (arith, pf.size))) ∙ pf.lives q h

-- ---- the prices with all shares are in range

-- no price with all its shares is above the highest, where the shares leave room
pub all_cheap : (ps x none all : List ℕ) (count : ℕ) → length none ≡ 1024 → FilledBy (λ (i : ℕ). i) (shared_in ps x count) 1024 none all → Roomy ps x count → (j : ℕ) → get_or all j 0 ≤ dear
all_cheap ps x none all count size f r j = go (dec_lt j 1024)
  where
    go : Dec (j < 1024) → get_or all j 0 ≤ dear
    go (yes h) = omega (arith, f.done j h, r j h)
    go (no h) = omega (arith, get_or-eq_default all 0 {n = j} (omega (arith, f.size, size)))

-- ---- a part that lasts costs nothing

lasting : (life e prev : ℤ) → within life prev e ≡ true → (os : List Offer) → least_of_lem life e prev os ≡ Sum 0
unfolding least_of_lem
lasting life e prev w [] = ap (λ (b : Bool). cond b (Sum 0) Missing) w
lasting life e prev w (o ∷ os) = ap (λ (b : Bound). lower b (change_at_lem life prev o (least_of_lem life e o.position os))) (lasting life e prev w os) ∙ low (change_at_lem life prev o (least_of_lem life e o.position os))
  where
    low : (b : Bound) → lower (Sum 0) b ≡ Sum 0
    low Missing = refl
    low (Sum n) = ap (λ (b : Bool). cond b (Sum n) (Sum 0)) (le-ltb n 0 (omega arith))

late_enough : (e p : ℤ) → mag e ≤ last_position → mag p ≤ last_position → within (pos longest_life) p e ≡ true
unfolding within
late_enough (pos n) (pos m) g h = at_most_test (pos n -ℤ pos m) (pos longest_life) (omega (arith, difference (pos n) (pos m)))
late_enough (pos n) (negsuc m) g h = at_most_test (pos n -ℤ negsuc m) (pos longest_life) (omega (arith, difference (pos n) (negsuc m)))
late_enough (negsuc n) (pos m) g h = at_most_test (negsuc n -ℤ pos m) (pos longest_life) (omega (arith, difference (negsuc n) (pos m)))
late_enough (negsuc n) (negsuc m) g h = at_most_test (negsuc n -ℤ negsuc m) (pos longest_life) (omega (arith, difference (negsuc n) (negsuc m)))

-- after any change it lasts to the end
spare_lasts : (job : Job) (shares : Shares) → mag (end job) ≤ last_position → ((j : ℕ) → mag (get_or (positions job) j (pos 0)) ≤ last_position) → (q l : ℕ) (bs : List (List Bool)) (k : ℕ) → rest_at job shares l bs q spare_held (mark_of job spare_held k) ≡ Sum 0
spare_lasts job shares e near q l bs k =
    lasting (pos longest_life) (end job) (mark_of job spare_held k) (late_enough (end job) (mark_of job spare_held k) e (near_mark k)) (drop l (offers (positions job) (shared_prices job shares q spare_held bs) (places_in spare_held bs)))
  where
    near_mark : (k : ℕ) → mag (mark_of job spare_held k) ≤ last_position
    near_mark zero = omega arith
    near_mark (suc k) = near k

-- ---- the tables

module _ (job : Job) (e : ℤ) (ss : List ℤ) (fs ls rs ps : List ℕ) (nd : List Bool) (rm : List ℕ) (ar : HeldArrays e ss fs ls rs ps rm) (ho : HeldJobArrays job e ss fs ls rs ps nd rm)
    (raw x₁ x : List ℕ) (marked : Marked nd (length ls) rm x₁) (kp : Kept raw ps fs rm (length rm + 1) x₁ x ((length rm + 1) * 64))
    (long first : List ℕ) (pl : Padded ls long) (pf : Padded rs first)
    (none all : List ℕ) (fa : FilledBy (λ (i : ℕ). i) (shared_in ps x (length rm + 1)) 1024 none all) (room : length none ≡ 1024)
    (t : List ℕ) (ta : Tables (sheet_of e ss fs long first all) t) where
  abbrev n : ℕ
  n = length job.openings

  abbrev held : ℕ → Held
  held q = lane_at (lanes_of job) q

  size : length ss ≡ n
  size = opened job e ss fs ls rs ps nd rm ho

  abbrev count : ℕ
  count = length rm + 1

  -- ---- a lane's prices

  own_price : (q k : ℕ) → q < lane_count_lem → k < n → get_or (held q).part.prices k 0 ≡ get_or ps (q * 64 + k) 0
  own_price q k l h = go (dec_lt q (length ls))
    where
      go : Dec (q < length ls) → get_or (held q).part.prices k 0 ≡ get_or ps (q * 64 + k) 0
      go (yes g) =
          ap (λ (h : Held). get_or h.part.prices k 0) (fair.lane_real job e ss fs ls rs ps nd rm ar ho raw x₁ x marked kp q g) ∙ ap (λ (l : List ℕ). get_or l k 0) (ho.lane q g).prices
          ∙ get_or-take (length ss) (drop (q * 64) ps) k 0 (omega (arith, size)) ∙ get_or-drop (q * 64) ps k 0
      go (no g) =
          ap (λ (h : Held). get_or h.part.prices k 0) (fair.lane_spare job e ss fs ls rs ps nd rm ar ho raw x₁ x marked kp q (omega arith) l)
          ∙ sym (ar.plain.free (q * 64 + k) (omega arith))

  owed_is : (q k : ℕ) → q < lane_count_lem → k < n → borne_at_lem x count k q ≡ owes job (shares_in x) q (held q) k []
  owed_is q k l h =
      let z = fair.all_things job e ss fs ls rs ps nd rm ar ho raw x₁ x marked kp in
      let m = fair.few_openings job e ss fs ls rs ps nd rm ar ho raw x₁ x marked kp in
      sum_same count 0 (λ (m : ℕ). get_or x (bear_place m k q) 0) (λ (m : ℕ). bears (shares_in x) q k (held q) m) (λ i f g. fair.bears_is job e ss fs ls rs ps nd rm ar ho raw x₁ x marked kp i k q (omega arith) (omega (arith, m)) l)
      ∙ ap (λ (c : ℕ). sum 0 c (λ (m : ℕ). bears (shares_in x) q k (held q) m)) z

  all_at : (q k : ℕ) → q < lane_count_lem → k < n → get_or all (q * 64 + k) 0 ≡ get_or ps (q * 64 + k) 0 + borne_at_lem x count k q
  all_at q k l h =
      let m = fair.few_openings job e ss fs ls rs ps nd rm ar ho raw x₁ x marked kp in
      let i = q * 64 + k in
      let a : i % 64 ≡ k = omega (arith, m) in
      let b : i / 64 ≡ q = omega (arith, m) in
      fa.done i (omega (arith, m)) ∙ ap₂ (λ (k q : ℕ). get_or ps i 0 + borne_at_lem x count k q) a b

  prices_are : (q : ℕ) → q < lane_count_lem → take (length ss) (drop (q * 64) all) ≡ shared_prices job (shares_in x) q (held q) []
  prices_are q l =
      let own = take (length ss) (drop (q * 64) all) in
      let m = fair.few_openings job e ss fs ls rs ps nd rm ar ho raw x₁ x marked kp in
      let w : length own ≡ n = simp (length-take, length-drop) (omega (arith, size, fa.size, room, m)) in
      sym (table_list 0 own n w)
      ∙ table_same (λ (k : ℕ). get_or own k 0) (λ (k : ℕ). get_or (held q).part.prices k 0 + owes job (shares_in x) q (held q) k []) n (λ k h.
      get_or-take (length ss) (drop (q * 64) all) k 0 (omega (arith, size)) ∙ get_or-drop (q * 64) all k 0 ∙ all_at q k l h
      ∙ ap₂ (λ (a b : ℕ). a + b) (sym (own_price q k l h)) (owed_is q k l h))

  -- ---- its life

  life_is : (q : ℕ) → q < lane_count_lem → (lane_value_lem long q ≡ (held q).part.life) × (lane_value_lem first q ≡ (held q).part.left)
  life_is q l = go (dec_lt q (length ls))
    where
      a : lane_value_lem long q ≡ get_or ls q longest_life
      a = lane_life_lem e ss fs ls rs ps ar.plain long first pl pf q l

      b : lane_value_lem first q ≡ get_or rs q longest_life
      b = lane_left e ss fs ls rs ps ar.plain long first pl pf q l

      go : Dec (q < length ls) → (lane_value_lem long q ≡ (held q).part.life) × (lane_value_lem first q ≡ (held q).part.left)
      go (yes g) =
          let r = fair.lane_real job e ss fs ls rs ps nd rm ar ho raw x₁ x marked kp q g in (
            a ∙ sym (there ls q 0 longest_life g) ∙ sym (ho.lane q g).life ∙ sym (ap (λ (h : Held). h.part.life) r),
            b ∙ sym (there rs q 0 longest_life (omega (arith, ar.plain.lives.lefts))) ∙ sym (ho.lane q g).left ∙ sym (ap (λ (h : Held). h.part.left) r),
          )
      go (no g) =
          let r = fair.lane_spare job e ss fs ls rs ps nd rm ar ho raw x₁ x marked kp q (omega arith) l in (
            a ∙ get_or-eq_default ls longest_life {n = q} (omega arith) ∙ sym (ap (λ (h : Held). h.part.life) r),
            b ∙ get_or-eq_default rs longest_life {n = q} (omega (arith, ar.plain.lives.lefts)) ∙ sym (ap (λ (h : Held). h.part.left) r),
          )

  column_is : (q : ℕ) → q < lane_count_lem → column_of (lane_part (length ss) long first all q) ≡ share.column_of job (shares_in x) [] q (held q)
  column_is q l =
      let f = life_is q l in
      λ i. record { life = pos (f.0 i); first = pos (f.1 i) -ℤ pos (f.0 i); prices = prices_are q l i }

  wide : lanes_in t ≡ lane_count_lem
  wide = let c = columns_length (length ss) long first all 0 ((length long + 3) / 4 * 4) in omega (arith, ta.wide, c, pl.size)

  lane_right : (q : ℕ) → q < lane_count_lem → Lane (end job) (positions job) (share.column_of job (shares_in x) [] q (held q)) t q
  lane_right q l =
      let z : 0 + q ≡ q = omega arith in
      let c = columns_at (length ss) long first all 0 ((length long + 3) / 4 * 4) q (omega (arith, pl.size)) ∙ ap (λ (i : ℕ). column_of (lane_part (length ss) long first all i)) z ∙ column_is q l in
      subst (λ (p : List ℤ). Lane (end job) p (share.column_of job (shares_in x) [] q (held q)) t q) ho.places
      (subst (λ (d : ℤ). Lane d ss (share.column_of job (shares_in x) [] q (held q)) t q) ho.ends
      (subst (λ (col : Column). Lane e ss col t q) c (ta.lanes q (omega (arith, wide)))))

  shared_tables : SharedTables job (shares_in x) (lanes_of job) t
  shared_tables =
      record {
        size = ta.size;
        few = fair.few_openings job e ss fs ls rs ps nd rm ar ho raw x₁ x marked kp;
        wide = wide;
        lane = lane_right;
        fees = λ k h. ta.fees k (omega (arith, size)) ∙ ap (λ (l : List ℕ). get_or l k 0) ho.fees;
        fair = λ k. subst (λ (l : List ℕ). get_or l k 0 ≤ top) ho.fees (ta.fair k);
        count = ta.count ∙ size;
      }

  share_table : ShareTable job (shares_in x) (lanes_of job) x
  share_table =
      let h = holding job e ss fs ls rs ps nd rm ho in
      let z = fair.all_things job e ss fs ls rs ps nd rm ar ho raw x₁ x marked kp in
      let m = fair.few_openings job e ss fs ls rs ps nd rm ar ho raw x₁ x marked kp in
      record {
        size = kp.size ∙ marked.size;
        bears_are = λ i k q f g l. fair.bears_is job e ss fs ls rs ps nd rm ar ho raw x₁ x marked kp i k q (omega (arith, z, f)) (omega (arith, m, g)) l;
        takes_are = λ i q f l. fair.flag_is job e ss fs ls rs ps nd rm ar ho raw x₁ x marked kp i q (omega (arith, z, f)) l;
        removals = λ b l. kp.rest (removal_place b) (omega arith) ∙ marked.removals b (omega (arith, h, l)) ∙ ap (λ (r : List ℕ). get_or r b 0) ho.removals;
        cheap = λ b. subst (λ (r : List ℕ). get_or r b 0 ≤ top) ho.removals (ar.removals b);
        holds = kp.rest holds_place (omega arith) ∙ marked.holds ∙ h;
        few = omega (arith, h, ar.holding);
      }

  lanes_right : Lanes job (shares_in x) (lanes_of job)
  lanes_right =
      record {
        few = fair.few_parts job e ss fs ls rs ps nd rm ar ho raw x₁ x marked kp;
        real = λ q l.
            fair.lane_is job e ss fs ls rs ps nd rm ar ho raw x₁ x marked kp q (omega (arith, l, fair.few_parts job e ss fs ls rs ps nd rm ar ho raw x₁ x marked kp)) _
            ∙ there (held_parts job) q spare_held share.no_held l;
        spare = λ q f l lv bs k _.
            (let s = fair.lane_spare job e ss fs ls rs ps nd rm ar ho raw x₁ x marked kp q (omega (arith, f, held_size_lem job e ss fs ls rs ps nd rm ho)) l in
            ap (λ (held : Held). rest_at job (shares_in x) lv bs q held (mark_of job held k)) s
            ∙ spare_lasts job (shares_in x) (subst (λ (d : ℤ). mag d ≤ last_position) ho.ends ar.plain.late) (λ j. subst (λ (ps : List ℤ). mag (get_or ps j (pos 0)) ≤ last_position) ho.places (ar.plain.near j)) q lv bs k);
      }

  -- the tables filled and the shares kept are those of the job's walk by fair shares
  pub prepared : Prepared job t x
  prepared =
      record {
        fair = fair.fair job e ss fs ls rs ps nd rm ar ho raw x₁ x marked kp;
        solvable = record { tables = shared_tables; shared = share_table; lanes_are = lanes_right };
      }
