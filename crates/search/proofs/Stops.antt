-- Decoding: the mask's decisions, written from the back, are what stands in front of those already written. And the rows of changes, part by part.
use Prim.Native.Nat.{ℕ, zero, suc, ◌+◌, ◌-◌, ◌/◌, ◌%◌, ◌≤◌, ◌<◌}
use mathlib.Core.Path.{◌≡◌, sym, ap, ◌∙◌}
use mathlib.Core.Bool.{Bool, false}
use mathlib.Core.List.{List, ◌∷◌, ◌++◌}
use native.Mathlib.Omega.{arith}
use borrow.Author.Count.{below_more}
use lib.Dec.{eqb}
use lib.ListN.{length, get_or, drop, set, replicate, length-set, length-append, length-drop, length-replicate, get_or-append}
use lib.Seq.{append_snoc, drop-cons, drop-set-lt, get_or-set_same, get_or-set_other}
use Rattle.model.specs.Limits.{most_openings}
use Rattle.jobs.specs.declared.Changes.{Changes}
use Rattle.search.specs.Plan.{no_row, Rows}
use Rattle.lane_rows.specs.Layout.{lane_count_lem}
use Rattle.search_state.specs.State.{bits}

drop_same : (n m : ℕ) → drop n (replicate m false) ≡ replicate (m - n) false
drop_same zero m = let z : m - 0 ≡ m = omega arith in rw z
drop_same (suc n) zero = let z : 0 - suc n ≡ 0 = omega arith in rw z
drop_same (suc n) (suc m) = let z : m - n ≡ suc m - suc n = omega arith in drop_same n m ∙ ap (λ (k : ℕ). replicate k false) z

-- the mask's n decisions, put before the rest of an array of no's, are followed by most_openings - n no's
pub stops_none : (n m : ℕ) → bits n m ++ drop n (replicate most_openings false) ≡ bits n m ++ replicate (most_openings - n) false
stops_none n m = ap (λ (l : List Bool). bits n m ++ l) (drop_same n most_openings)

bits_last : (k m : ℕ) (l : List Bool) → bits (suc k) m ++ l ≡ bits k (m / 2) ++ (eqb (m % 2) 1 ∷ l)
unfolding bits
bits_last k m l = append_snoc (bits k (m / 2)) (eqb (m % 2) 1) l

drop-set : (l : List Bool) (k : ℕ) (b : Bool) → k < length l → drop k (set l k b) ≡ b ∷ drop (suc k) l
drop-set l k b h =
    drop-cons (set l k b) k false (omega (arith, length-set l k b))
    ∙ (λ i. get_or-set_same l k b false h i ∷ drop-set-lt (suc k) l k b (omega arith) i)

-- the mask's last decision, written in its place, stands in front of those already written
pub stops_more : (out : List Bool) (k m : ℕ) (all : List Bool) → 0 < k → k ≤ length out → bits k m ++ drop k out ≡ all
    → bits (k - 1) (m / 2) ++ drop (k - 1) (set out (k - 1) (eqb (m % 2) 1)) ≡ all
stops_more out k m all h g e =
    let z : suc (k - 1) ≡ k = omega arith in
    ap (λ (l : List Bool). bits (k - 1) (m / 2) ++ l) (drop-set out (k - 1) (eqb (m % 2) 1) (omega arith))
    ∙ sym (bits_last (k - 1) m (drop (suc (k - 1)) out))
    ∙ ap (λ (n : ℕ). bits n m ++ drop n out) z ∙ e

-- once no decision of the mask is left, the array is what it should be
pub stops_all : (out : List Bool) (k m : ℕ) (all : List Bool) → k ≤ 0 → bits k m ++ drop k out ≡ all → out ≡ all
unfolding bits
stops_all out zero m all h e = e
stops_all out (suc k) m all h e = absurd (omega arith)

-- ---- the rows of changes

module _ (f : ℕ → List Bool) where
  -- with part q's changes in its row, the rows of one part more are right
  pub row_more : (rows : List Changes) (q : ℕ) (v : List Bool) → q < length rows → v ≡ f q → ((k : ℕ) → k < q → (get_or rows k no_row).at ≡ f k)
      → (k : ℕ) → k < q + 1 → (get_or (set rows q (record { at = v })) k no_row).at ≡ f k
  row_more rows q v h e all =
      below_more (λ (r : ℕ). (get_or (set rows q (record { at = v })) r no_row).at ≡ f r) q
      (λ r l. ap (λ (x : Changes). x.at) (get_or-set_other rows q r (record { at = v }) no_row (λ z. omega (arith, z))) ∙ all r l)
      (ap (λ (x : Changes). x.at) (get_or-set_same rows q (record { at = v }) no_row h) ∙ e)

  -- the first m rows are right where they are written in front of rows without changes
  pub rows_front : (rows : List Changes) (m : ℕ) → m ≤ lane_count_lem → length rows ≡ m → ((k : ℕ) → k < m → (get_or rows k no_row).at ≡ f k) → Rows f (rows ++ drop m (replicate lane_count_lem no_row)) m
  rows_front rows m h e all = record {
    size = length-append rows (drop m (replicate lane_count_lem no_row)) ∙ omega (arith, e, h, length-drop m (replicate lane_count_lem no_row), length-replicate lane_count_lem no_row);
    row = λ q l. ap (λ (x : Changes). x.at) (get_or-append rows (drop m (replicate lane_count_lem no_row)) no_row q (omega (arith, l, e))) ∙ all q l;
  }
