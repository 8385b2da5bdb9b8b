-- What is kept of any table of shares is fair, and leaves every price with its shares in range.
use Prim.Native.Nat.{ℕ, zero, suc, ◌+◌, ◌-◌, ◌*◌, ◌/◌, ◌%◌, ◌<◌, ◌≤◌, min}
use mathlib.Core.Path.{◌≡◌, refl, sym, ap, subst, ◌∙◌}
use mathlib.Core.Bool.{Bool, true, false, cond}
use mathlib.Core.List.{List, [], ◌∷◌}
use native.Mathlib.Omega.{arith}
use native.Mathlib.Nat.{mul-div-le}
use native.Mathlib.Numerals.{add-one}
use native.Mathlib.Decide.{dec_lt}
use borrow.Author.Tests.{lt-ltb, le-ltb, leb-true, lt-leb, le-leb, eq-eqb, ne_eqb}
use lib.Dec.{leb}
use lib.ListN.{length, get_or, drop, get_or-eq_default}
use lib.Seq.{get_or-take, get_or-drop}
use lib.IntN.{ℤ}
use Rattle.std.specs.List.{range_with_len, sum_by}
use Rattle.std.proofs.lemmas.List.Sums.{sum_by-cons}
use Rattle.model.specs.Model.{Job, sum}
use Rattle.model.specs.Decisions.{Held, held_parts, held_at}
use Rattle.model.specs.Verdict.{part_at}
use Rattle.model.proofs.Lists.{table_at}
use Rattle.model.proofs.Sums.{sum_mono}
use Rattle.model.proofs.Held.{held_at_lem}
use Rattle.shares.specs.Shares.{things, worth, takes, bears, borne, FairShares}
use Rattle.held_places.specs.Arrays.{HeldJobArrays}
use Rattle.held_places.proofs.Held.{opened, holding, held_size_lem}
use Rattle.held_tables.specs.Arrays.{HeldArrays}
use Rattle.lane_rows.specs.Layout.{lane_count_lem, dear}
use Rattle.lane_rows.specs.Rows.{sum_from, sum_lanes}
use Rattle.lane_rows.proofs.Lanes.{sum_same}
use Rattle.share_rows.specs.Places.{bear_place, take_place}
use Rattle.share_rows.specs.Tables.{lane_at}
use Rattle.fair_shares.specs.Checked.{shares_in, row_start, room_of_lem, price_in, offer, cost_in_lem, keep, kept, Kept, taken, Marked}
use Rattle.fair_shares.proofs.Rows.{offer_room}
use Rattle.share_tables.specs.Prepared.{spare_held, lanes_of, Roomy}
use Rattle.base.proofs.Bools.{cond_most}

-- ---- sums

sum_zero : (k q : ℕ) → sum_from (λ (p : ℕ). 0) q k ≡ 0
unfolding sum_from
sum_zero zero q = refl
sum_zero (suc k) q = omega (arith, sum_zero k (suc q))

sum_more : (f : ℕ → ℕ) (q k n : ℕ) → k ≤ n → sum_from f q k ≤ sum_from f q n
unfolding sum_from
sum_more f q zero n l = omega arith
sum_more f q (suc k) zero l = absurd (omega arith)
sum_more f q (suc k) (suc n) l = omega (arith, sum_more f (suc q) k n (omega arith))

sum_times : (n from c : ℕ) → sum from n (λ (m : ℕ). c) ≡ n * c
unfolding sum
sum_times zero from c = omega arith
sum_times (suc n) from c = omega (arith, sum_times n (suc from) c)

-- the library's sum over a range of n numbers, in the definition's words
pub sum_range : (n from : ℕ) (f : ℕ → ℕ) → sum_by f (range_with_len from n) ≡ sum from n f
unfolding sum
sum_range zero from f = refl
sum_range (suc n) from f = sum_by-cons f from (range_with_len (from + 1) n) ∙ ap (λ (k : ℕ). f from + k) (rw (add-one from) (sum_range n (suc from) f))

-- a sum of numbers that are at most c
pub sum_most : (n from c : ℕ) (f : ℕ → ℕ) → ((m : ℕ) → f m ≤ c) → sum from n f ≤ n * c
sum_most n from c f h = omega (arith, sum_mono n from f (λ (m : ℕ). c) (λ m a b. h m), sum_times n from c)

-- what the parts bear of a thing is at most the sum of its row
borne_row : (x : List ℕ) (k m i : ℕ) (hs : List Held) → borne (shares_in x) k m i hs ≤ sum_from (λ (q : ℕ). get_or x (bear_place m k q) 0) i (length hs)
unfolding borne sum_from
borne_row x k m i [] = omega arith
borne_row x k m i (held ∷ hs) = omega (arith, cond_most (get_or (takes held) m false) (get_or x (bear_place m k i) 0), borne_row x k m (suc i) hs)

-- what is kept of a row is at most what it costs, and at most what is offered
keep_sum : (cost : ℕ) (f : ℕ → ℕ) → sum_lanes lane_count_lem (keep cost f) ≤ cost
keep_sum cost f = go (leb (sum_lanes lane_count_lem f) cost) refl
  where
    go : (b : Bool) → leb (sum_lanes lane_count_lem f) cost ≡ b → sum_lanes lane_count_lem (λ (q : ℕ). cond b (f q) 0) ≤ cost
    go true e = leb-true (sum_lanes lane_count_lem f) cost e
    go false e = omega (arith, sum_zero lane_count_lem 0)

keep_less : (cost : ℕ) (f : ℕ → ℕ) (q : ℕ) → keep cost f q ≤ f q
keep_less cost f q = cond_most (leb (sum_lanes lane_count_lem f) cost) (f q)

-- ---- any table

module _ (ps fs rm raw x₁ x : List ℕ) (all : ℕ) (kp : Kept raw ps fs rm all x₁ x (all * 64)) where
  -- the table's share of a lane in a thing at an opening is what is kept of the raw one
  pub share_is : (m k q : ℕ) → m < all → k < 64 → q < lane_count_lem → get_or x (bear_place m k q) 0 ≡ kept raw x₁ ps fs rm all (m * 64 + k) q
  share_is m k q l h i = kp.row (m * 64 + k) q (omega arith) i

  -- every price with its shares is in range
  pub roomy : ((j : ℕ) → get_or ps j 0 ≤ dear) → Roomy ps x all
  roomy cheap i h =
      let k = i % 64 in
      let q = i / 64 in
      let price = get_or ps i 0 in
      let c = room_of_lem price all in
      let z : q * 64 + k ≡ i = omega arith in
      let each : (m : ℕ) → m < all → get_or x (bear_place m k q) 0 ≤ c = λ m l.
      (let r = m * 64 + k in
      let y : q * 64 + r % 64 ≡ i = omega arith in
      let p : price_in ps r q ≡ price = ap (λ (j : ℕ). get_or ps j 0) y in
      let s = share_is m k q l (omega arith) (omega arith) in
      let a = keep_less (cost_in_lem fs rm r) (offer raw x₁ ps all r) q in
      let b : offer raw x₁ ps all r q ≤ c = subst (λ (n : ℕ). offer raw x₁ ps all r q ≤ room_of_lem n all) p (offer_room raw x₁ ps all r q) in
      omega (arith, s, a, b)) in
      let t = sum_mono all 0 (λ (m : ℕ). get_or x (bear_place m k q) 0) (λ (m : ℕ). c) (λ m f g. each m (omega arith)) in
      omega (arith, t, sum_times all 0 c, mul-div-le (dear - price) all, cheap i)

-- ---- a job's table

module _ (job : Job) (e : ℤ) (ss : List ℤ) (fs ls rs ps : List ℕ) (nd : List Bool) (rm : List ℕ) (ar : HeldArrays e ss fs ls rs ps rm) (ho : HeldJobArrays job e ss fs ls rs ps nd rm)
    (raw x₁ x : List ℕ) (marked : Marked nd (length ls) rm x₁) (kp : Kept raw ps fs rm (length rm + 1) x₁ x ((length rm + 1) * 64)) where
  abbrev count : ℕ
  count = length rm + 1

  -- the stop and the removals are as many as the things that are paid at an opening
  pub all_things : count ≡ things job
  all_things = omega (arith, holding job e ss fs ls rs ps nd rm ho)

  -- the job has at most 64 openings
  pub few_openings : length job.openings ≤ 64
  few_openings = omega (arith, ar.plain.few, opened job e ss fs ls rs ps nd rm ho)

  -- the job has at most 16 parts
  pub few_parts : length (held_parts job) ≤ 16
  few_parts = omega (arith, held_size_lem job e ss fs ls rs ps nd rm ho, ar.plain.lanes)

  -- ---- the lanes

  -- each of the sixteen lanes is the job's part at that place, or the spare part past the last
  pub lane_is : (q : ℕ) → q < lane_count_lem → (d : Held) → get_or (lanes_of job) q d ≡ get_or (held_parts job) q spare_held
  lane_is q l d = table_at (λ (q : ℕ). get_or (held_parts job) q spare_held) lane_count_lem q d l

  -- a lane below the number of parts is the job's part with that number
  pub lane_real : (q : ℕ) → q < length ls → lane_at (lanes_of job) q ≡ held_at job q (part_at job q)
  lane_real q l = lane_is q (omega (arith, ar.plain.lanes)) _ ∙ held_at_lem job q spare_held (omega (arith, ho.parts))

  -- a lane past the last part is the spare part that lasts to the end
  pub lane_spare : (q : ℕ) → length ls ≤ q → q < lane_count_lem → lane_at (lanes_of job) q ≡ spare_held
  lane_spare q l k = lane_is q k _ ∙ get_or-eq_default (held_parts job) spare_held {n = q} (omega (arith, held_size_lem job e ss fs ls rs ps nd rm ho))

  -- ---- which lanes take a thing

  need_is : (q b : ℕ) → q < length ls → b < length rm → get_or nd (q * 16 + b) false ≡ get_or (lane_at (lanes_of job) q).needs b false
  need_is q b l k =
      sym (get_or-drop (q * 16) nd b false) ∙ sym (get_or-take (length rm) (drop (q * 16) nd) b false k) ∙ sym (ap (λ (n : List Bool). get_or n b false) (ap (λ (h : Held). h.needs) (lane_real q l) ∙ (ho.lane q l).needs))

  -- the number that says whether a lane takes a thing is 1 where its part needs it, else 0
  pub taken_is : (m q : ℕ) → m < count → q < lane_count_lem → taken nd (length ls) m q ≡ cond (get_or (takes (lane_at (lanes_of job) q)) m false) 1 0
  taken_is zero q l k = refl
  taken_is (suc b) q l k = ap (λ (t : Bool). cond t 1 (cond (leb (length ls) q) 0 (cond (get_or nd (q * 16 + (suc b - 1)) false) 1 0))) (ne_eqb (suc b) 0 (λ e. omega (arith, e))) ∙ go (dec_lt q (length ls))
    where
      go : Dec (q < length ls) → ◌≡◌ {A = ℕ} (cond (leb (length ls) q) 0 (cond (get_or nd (q * 16 + (suc b - 1)) false) 1 0)) (cond (get_or (lane_at (lanes_of job) q).needs b false) 1 0)
      go (yes h) =
          let z : suc b - 1 ≡ b = omega arith in
          ap (λ (t : Bool). cond t 0 (cond (get_or nd (q * 16 + (suc b - 1)) false) 1 0)) (lt-leb (length ls) q h)
          ∙ ap (λ (i : ℕ). cond (get_or nd (q * 16 + i) false) 1 0) z ∙ ap (λ (t : Bool). cond t 1 0) (need_is q b h (omega arith))
      go (no h) =
          ap (λ (t : Bool). cond t 0 (cond (get_or nd (q * 16 + (suc b - 1)) false) 1 0)) (le-leb (length ls) q (omega arith))
          ∙ sym (ap (λ (h : Held). cond (get_or h.needs b false) 1 0) (lane_spare q (omega arith) k))

  -- the number of the table for a thing and a lane is 1 where the lane takes the thing, else 0
  pub flag_is : (m q : ℕ) → m < count → q < lane_count_lem → get_or x (take_place m q) 0 ≡ cond (get_or (takes (lane_at (lanes_of job) q)) m false) 1 0
  flag_is m q l k = kp.rest (take_place m q) (omega arith) ∙ marked.takes m q (omega arith) k ∙ taken_is m q l k

  -- ---- the shares

  -- a lane that does not take a thing has no share of it
  pub bears_is : (m k q : ℕ) → m < count → k < 64 → q < lane_count_lem → get_or x (bear_place m k q) 0 ≡ bears (shares_in x) q k (lane_at (lanes_of job) q) m
  bears_is m k q l h i = go (get_or (takes (lane_at (lanes_of job) q)) m false) refl
    where
      r : ℕ
      r = m * 64 + k

      go : (b : Bool) → get_or (takes (lane_at (lanes_of job) q)) m false ≡ b → get_or x (bear_place m k q) 0 ≡ cond b (get_or x (bear_place m k q) 0) 0
      go true f = refl
      go false f =
          let z : r / 64 ≡ m = omega arith in
          let g : get_or x₁ (take_place (r / 64) q) 0 ≡ 0 = ap (λ (n : ℕ). get_or x₁ (take_place n q) 0) z ∙ marked.takes m q (omega arith) i ∙ taken_is m q l i ∙ ap (λ (b : Bool). cond b 1 0) f in
          let o : offer raw x₁ ps count r q ≡ 0 = ap (λ (t : Bool). cond t 0 (min (get_or raw (row_start r + q) 0) (room_of_lem (price_in ps r q) count))) (eq-eqb (get_or x₁ (take_place (r / 64) q) 0) 0 g) in
          share_is ps fs rm raw x₁ x count kp m k q l h i ∙ (let s = keep_less (cost_in_lem fs rm r) (offer raw x₁ ps count r) q in omega (arith, s, o))

  -- ---- fair

  cost_is : (k m : ℕ) → k < 64 → m < count → cost_in_lem fs rm (m * 64 + k) ≡ get_or (worth job k) m 0
  cost_is k zero h l = let z : 0 * 64 + k ≡ k = omega arith in ap (cost_in_lem fs rm) z ∙ ap (λ (b : Bool). cond b (get_or fs k 0) (get_or rm (k / 64 - 1) 0)) (lt-ltb k 64 h) ∙ ap (λ (l : List ℕ). get_or l k 0) ho.fees
  cost_is k (suc b) h l =
      let r = suc b * 64 + k in
      let z : r / 64 - 1 ≡ b = omega arith in
      ap (λ (t : Bool). cond t (get_or fs r 0) (get_or rm (r / 64 - 1) 0)) (le-ltb r 64 (omega arith)) ∙ ap (λ (i : ℕ). get_or rm i 0) z ∙ ap (λ (l : List ℕ). get_or l b 0) ho.removals

  pub fair : FairShares job (shares_in x)
  fair k m h l =
      let i : k < 64 = omega (arith, few_openings) in
      let j : m < count = omega (arith, all_things) in
      let f = kept raw x₁ ps fs rm count (m * 64 + k) in
      let s = sum_same lane_count_lem (λ (q : ℕ). get_or x (bear_place m k q) 0) f (λ q g. share_is ps fs rm raw x₁ x count kp m k q j i g) in
      omega (arith, borne_row x k m 0 (held_parts job), sum_more (λ (q : ℕ). get_or x (bear_place m k q) 0) 0 (length (held_parts job)) lane_count_lem few_parts, s, keep_sum (cost_in_lem fs rm (m * 64 + k)) (offer raw x₁ ps count (m * 64 + k)), cost_is k m i j)
