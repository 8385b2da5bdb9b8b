-- What is offered and kept of a row: by its lanes alone, and small.
use Prim.Native.Nat.{ℕ, ◌+◌, ◌-◌, ◌*◌, ◌/◌, ◌%◌, ◌<◌, ◌≤◌, min}
use mathlib.Core.Path.{◌≡◌, refl, sym, ap, ap₂, ◌∙◌}
use mathlib.Core.Bool.{Bool, true, false, cond}
use mathlib.Core.List.{List}
use native.Mathlib.Omega.{arith}
use native.Mathlib.Nat.{div-le_self}
use native.Mathlib.Decide.{dec_lt}
use lib.Dec.{eqb, leb}
use lib.ListN.{length, get_or, set, length-set}
use lib.Seq.{get_or-set_same, get_or-set_other}
use Rattle.base.specs.Filled.{FilledBy}
use Rattle.lane_rows.specs.Layout.{lane_count_lem, dear}
use Rattle.lane_rows.proofs.Lanes.{sum_same}
use Rattle.share_rows.specs.Places.{take_base, take_place, removal_place, holds_place, share_size}
use Rattle.fair_shares.specs.Checked.{row_start, room_of_lem, price_in, offer, cost_in_lem, keep, kept, Kept, taken, Marked}

-- the same places, with what is the same there
pub filled_as : {place f g : ℕ → ℕ} {n : ℕ} {t u : List ℕ} → ((y : ℕ) → y < n → f y ≡ g y) → FilledBy place f n t u → FilledBy place g n t u
filled_as e d = record { size = d.size; done = λ y l. d.done y l ∙ e y l; rest = d.rest }

room_small : (price things : ℕ) → room_of_lem price things ≤ dear
room_small price things = omega (arith, div-le_self (dear - price) things)

-- what is offered for a lane is no more than its room beside the price
pub offer_room : (raw x ps : List ℕ) (things r q : ℕ) → offer raw x ps things r q ≤ room_of_lem (price_in ps r q) things
offer_room raw x ps things r q = go (eqb (get_or x (take_place (r / 64) q) 0) 0)
  where
    go : (b : Bool) → cond b 0 (min (get_or raw (row_start r + q) 0) (room_of_lem (price_in ps r q) things)) ≤ room_of_lem (price_in ps r q) things
    go true = omega arith
    go false = omega arith

-- what is offered for a lane is no more than the highest price
pub offer_small : (raw x ps : List ℕ) (things r q : ℕ) → offer raw x ps things r q ≤ dear
offer_small raw x ps things r q = omega (arith, offer_room raw x ps things r q, room_small (price_in ps r q) things)

-- what is offered only looks at which lanes take the thing
pub offer_same : (raw x y ps : List ℕ) (things r : ℕ) → ((i : ℕ) → take_base ≤ i → get_or x i 0 ≡ get_or y i 0) → (q : ℕ) → offer raw x ps things r q ≡ offer raw y ps things r q
offer_same raw x y ps things r e q =
    ap (λ (v : ℕ). cond (eqb v 0) 0 (min (get_or raw (row_start r + q) 0) (room_of_lem (price_in ps r q) things))) (e (take_place (r / 64) q) (omega arith))

-- the same is kept of two rows that offer the same for each lane
pub keep_same : (cost : ℕ) (f g : ℕ → ℕ) → ((q : ℕ) → f q ≡ g q) → (q : ℕ) → keep cost f q ≡ keep cost g q
keep_same cost f g e q = λ i. cond (leb (sum_same lane_count_lem f g (λ q l. e q) i) cost) (e q i) 0

-- ---- row by row

module _ (raw ps fs rm : List ℕ) (things : ℕ) (x : List ℕ) where
  -- before any row is checked, none is kept and nothing has moved
  pub kept_none : Kept raw ps fs rm things x x 0
  kept_none = record { size = refl; row = λ r q l. absurd (omega arith); rest = λ y l. refl }

  -- where the first n rows are kept and the next is filled with what is kept of it, n + 1 are
  pub kept_more : (y z : List ℕ) (n : ℕ) → n < 1088 → Kept raw ps fs rm things x y n → FilledBy (λ (q : ℕ). row_start n + q) (kept raw y ps fs rm things n) lane_count_lem y z → Kept raw ps fs rm things x z (n + 1)
  kept_more y z n few k f =
      record {
        size = f.size ∙ k.size;
        row = λ r q l h. go r q h (dec_lt r n) (omega arith);
        rest = λ i l. f.rest i (λ q h e. omega (arith, e)) ∙ k.rest i l;
      }
    where
      go : (r q : ℕ) → q < lane_count_lem → Dec (r < n) → r ≤ n → get_or z (row_start r + q) 0 ≡ kept raw x ps fs rm things r q
      go r q h (yes l) m = f.rest (row_start r + q) (λ p g e. omega (arith, e)) ∙ k.row r q l h
      go r q h (no l) m =
          let e : r ≡ n = omega arith in
          let u = f.done q h ∙ keep_same (cost_in_lem fs rm n) (offer raw y ps things n) (offer raw x ps things n) (offer_same raw y x ps things n k.rest) q in
          ap (λ (i : ℕ). get_or z (row_start i + q) 0) e ∙ u ∙ sym (ap (λ (i : ℕ). kept raw x ps fs rm things i q) e)

-- ---- the table but for the shares

-- a table filled with what each lane takes, the removals and their number is marked, but for the shares
pub marked_by : (nd : List Bool) (parts : ℕ) (rm x y z : List ℕ) → length x ≡ share_size → length rm ≤ 16 → FilledBy (λ (i : ℕ). take_base + i) (λ (i : ℕ). taken nd parts (i / 16) (i % 16)) ((length rm + 1) * 16) x y
    → FilledBy removal_place (λ (b : ℕ). get_or rm b 0) (length rm) y z → Marked nd parts rm (set z holds_place (length rm))
marked_by nd parts rm x y z s few f g =
    record {
      size = length-set z holds_place (length rm) ∙ g.size ∙ f.size ∙ s;
      takes = λ m q l h.
          (let i = m * 16 + q in
          let a : i / 16 ≡ m = omega arith in
          let b : i % 16 ≡ q = omega arith in
          let p : take_place m q ≡ take_base + i = omega arith in
          get_or-set_other z holds_place (take_place m q) (length rm) 0 (λ e. omega (arith, e)) ∙ g.rest (take_place m q) (λ b k e. omega (arith, e)) ∙ ap (λ (j : ℕ). get_or y j 0) p ∙ f.done i (omega arith) ∙ ap₂ (taken nd parts) a b);
      removals = λ b l. get_or-set_other z holds_place (removal_place b) (length rm) 0 (λ e. omega (arith, e)) ∙ g.done b l;
      holds = get_or-set_same z holds_place (length rm) 0 (omega (arith, g.size, f.size, s));
    }
