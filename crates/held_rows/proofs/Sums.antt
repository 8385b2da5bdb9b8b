-- The lanes' least prices after one decision more. A yes and a removal change nothing to any lane; where a stop is shut to a lane, it is as good as no stop; where it is not, it is as good as undecided.
-- The least prices are all there exactly where the terms are.
use Prim.Native.Nat.{ℕ, zero, suc, ◌+◌, ◌<◌}
use mathlib.Core.Path.{◌≡◌, refl, sym, ap, ap₂, subst, ◌∙◌}
use mathlib.Core.Bool.{Bool, true, false, cond}
use mathlib.Core.List.{List, [], ◌∷◌, ◌++◌}
use native.Mathlib.Omega.{arith}
use lib.ListN.{length, get_or, take}
use Rattle.branch.specs.declared.Bound.{Bound}
use Rattle.branch.specs.declared.Bound.TheVariants.{Missing, Sum}
use Rattle.branch.specs.Lower.{add, total, larger, largest}
use Rattle.branch.specs.Search.{snoc}
use Rattle.branch.proofs.Bounds.{no_sum_lem}
use Rattle.branch.proofs.Lower.{split}
use Rattle.model.specs.Decisions.{accessible}
use Rattle.model.specs.LowerBound.{undecided_fees}
use Rattle.model.proofs.Unpaid.{there_together}
use Rattle.lane_rows.specs.Sheet.{column_bound, column_fee}
use Rattle.lane_rows.specs.Rows.{sum_from}
use Rattle.lane_rows.proofs.Front.{column_yes}
use Rattle.held_rows.specs.Held.{HeldColumn, HeldSheet, plain, no_lane, needs_of_lem, seen_by, lane_bound, held_sums, lane_fee, held_term}
use Rattle.held_rows.proofs.Seen.{seen_no, seen_yes, seen_stop, accessible_removed}

module _ (sheet : HeldSheet) (bs : List (List Bool)) where
  -- a lane's price where the stop at hand is allowed to it, and where it is shut
  abbrev pub open_bound : HeldColumn → Bound
  open_bound lane = column_bound (plain sheet) lane.column (seen_by sheet bs lane)

  -- a lane's least price where the stop at hand is shut to it
  abbrev pub shut_bound : HeldColumn → Bound
  shut_bound lane = column_bound (plain sheet) lane.column (snoc (seen_by sheet bs lane) false)

  -- after a no a lane has its price as of a stop that is shut to it
  pub bound_no : (lane : HeldColumn) → lane_bound sheet (bs ++ ((false ∷ []) ∷ [])) lane [] ≡ shut_bound lane
  bound_no lane = ap (column_bound (plain sheet) lane.column) (seen_no (needs_of_lem sheet lane.class) bs)

  -- at a stop a lane has its price as allowed or as shut, by whether the removals leave it accessible
  pub bound_stop : (rs : List Bool) (lane : HeldColumn) → lane_bound sheet (bs ++ ((true ∷ rs) ∷ [])) lane [] ≡ cond (accessible (needs_of_lem sheet lane.class) rs) (open_bound lane) (shut_bound lane)
  bound_stop rs lane =
      ap (column_bound (plain sheet) lane.column) (seen_stop (needs_of_lem sheet lane.class) bs rs) ∙ go (accessible (needs_of_lem sheet lane.class) rs)
    where
      go : (b : Bool) → column_bound (plain sheet) lane.column (snoc (seen_by sheet bs lane) b) ≡ cond b (open_bound lane) (shut_bound lane)
      go true = sym (column_yes (plain sheet) lane.column (seen_by sheet bs lane))
      go false = refl

  -- a yes child has its parent's sums
  pub sums_yes : held_sums sheet (bs ++ ((true ∷ []) ∷ [])) ≡ held_sums sheet bs
  sums_yes = λ i. total (λ (lane : HeldColumn) (p : List Bool). (ap (column_bound (plain sheet) lane.column) (seen_yes (needs_of_lem sheet lane.class) bs) ∙ sym (column_yes (plain sheet) lane.column (seen_by sheet bs lane))) i) sheet.lanes []

  -- and so has a removed child, and its term
  seen_removed : (rs : List Bool) (lane : HeldColumn) → seen_by sheet (bs ++ ((true ∷ snoc rs true) ∷ [])) lane ≡ seen_by sheet (bs ++ ((true ∷ rs) ∷ [])) lane
  seen_removed rs lane =
      let needs = needs_of_lem sheet lane.class in
      seen_stop needs bs (snoc rs true) ∙ ap (snoc (seen_by sheet bs lane)) (accessible_removed needs rs) ∙ sym (seen_stop needs bs rs)

  -- one removal more at a stop leaves the part sums as they are
  pub sums_removed : (rs : List Bool) → held_sums sheet (bs ++ ((true ∷ snoc rs true) ∷ [])) ≡ held_sums sheet (bs ++ ((true ∷ rs) ∷ []))
  sums_removed rs = λ i. total (λ (lane : HeldColumn) (p : List Bool). column_bound (plain sheet) lane.column (seen_removed rs lane i)) sheet.lanes []

  -- one removal more at a stop leaves the term as it is
  pub term_removed : (rs : List Bool) → held_term sheet (bs ++ ((true ∷ snoc rs true) ∷ [])) ≡ held_term sheet (bs ++ ((true ∷ rs) ∷ []))
  term_removed rs = λ i. largest (λ (lane : HeldColumn) (p : List Bool). column_fee (plain sheet) lane.column (seen_removed rs lane i)) (take sheet.parts sheet.lanes) []

  -- ---- a lane has a least price exactly where it has a term

  -- a lane that has a term has a least price
  pub bound_there : (lane : HeldColumn) (n : ℕ) → lane_fee sheet bs lane [] ≡ Sum n → (m : ℕ) × (lane_bound sheet bs lane [] ≡ Sum m)
  unfolding column_bound column_fee
  bound_there lane n e =
      let p = seen_by sheet bs lane in
      there_together lane.column.life sheet.end lane.column.first sheet.positions (undecided_fees sheet.fees p) lane.column.prices p n e

  -- a lane that has a least price has a term
  pub fee_there : (lane : HeldColumn) (n : ℕ) → lane_bound sheet bs lane [] ≡ Sum n → (m : ℕ) × (lane_fee sheet bs lane [] ≡ Sum m)
  unfolding column_bound column_fee
  fee_there lane n e =
      let p = seen_by sheet bs lane in
      there_together lane.column.life sheet.end lane.column.first sheet.positions lane.column.prices (undecided_fees sheet.fees p) p n e

-- ---- lists of lanes

-- where each is there, so is their sum
pub sum_there : (f : HeldColumn → List Bool → Bound) (v : ℕ → ℕ) (xs : List HeldColumn) (q : ℕ) → ((i : ℕ) → i < length xs → f (get_or xs i no_lane) [] ≡ Sum (v (q + i)))
    → total f xs [] ≡ Sum (sum_from v q (length xs))
unfolding sum_from
sum_there f v [] q h = refl
sum_there f v (x ∷ xs) q h =
    let z : q + 0 ≡ q = omega arith in
    ap₂ add (subst (λ (k : ℕ). f x [] ≡ Sum (v k)) z (h 0 (omega arith)))
    (sum_there f v xs (suc q) (λ i l. let y : q + suc i ≡ suc q + i = omega arith in subst (λ (k : ℕ). f (get_or xs i no_lane) [] ≡ Sum (v k)) y (h (suc i) (omega arith))))

-- and the sum is there only where each is
pub each_there : (f : HeldColumn → List Bool → Bound) (xs : List HeldColumn) (n : ℕ) → total f xs [] ≡ Sum n → (i : ℕ) → i < length xs → (m : ℕ) × (f (get_or xs i no_lane) [] ≡ Sum m)
each_there f [] n e i l = absurd (omega arith)
each_there f (x ∷ xs) n e zero l = let d = split (f x []) (total f xs []) n e in (d.a, d.left)
each_there f (x ∷ xs) n e (suc i) l = let d = split (f x []) (total f xs []) n e in each_there f xs d.b d.right i (omega arith)

-- the largest is there only where each is
pub each_fee : (f : HeldColumn → List Bool → Bound) (xs : List HeldColumn) (n : ℕ) → largest f xs [] ≡ Sum n → (i : ℕ) → i < length xs → (m : ℕ) × (f (get_or xs i no_lane) [] ≡ Sum m)
each_fee f [] n e i l = absurd (omega arith)
each_fee f (x ∷ xs) n e zero l = go (f x []) (largest f xs []) e
  where
    go : (a b : Bound) → larger a b ≡ Sum n → (m : ℕ) × (a ≡ Sum m)
    go Missing b g = absurd (no_sum_lem Missing n refl g)
    go (Sum m) b g = (m, refl)
each_fee f (x ∷ xs) n e (suc i) l = go (f x []) (largest f xs []) e (λ m h. each_fee f xs m h i (omega arith))
  where
    go : (a b : Bound) → larger a b ≡ Sum n → ((m : ℕ) → b ≡ Sum m → (k : ℕ) × (f (get_or xs i no_lane) [] ≡ Sum k)) → (k : ℕ) × (f (get_or xs i no_lane) [] ≡ Sum k)
    go Missing b g h = absurd (no_sum_lem Missing n refl g)
    go (Sum a) Missing g h = absurd (no_sum_lem Missing n refl g)
    go (Sum a) (Sum b) g h = h b refl
