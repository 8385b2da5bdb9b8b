-- One mark more: of the highest numbers, and of the rows.
use Prim.Native.Nat.{ℕ, zero, suc, ◌+◌, ◌≤◌, ◌<◌, max}
use mathlib.Core.Path.{◌≡◌, refl, ap, ap₂, ◌∙◌}
use mathlib.Core.Bool.{Bool, true, false, cond}
use mathlib.Core.List.{List}
use native.Mathlib.Omega.{arith}
use native.Mathlib.Numerals.{add-one}
use native.Mathlib.Decide.{ℕ_discrete}
use lib.Dec.{ltb}
use lib.ListN.{get_or}
use borrow.Author.Tests.{ltb-true}
use Rattle.lane_rows.specs.Layout.{lane_count_lem, inf, lanes_in, suffix_base, place, row_place, mark_place}
use Rattle.lane_rows.specs.Rows.{Put, Memo, FirstRow, sum_from}
use Rattle.lane_rows.proofs.Lanes.{≠_lt}
use Rattle.lane_rows.proofs.Memory.{memo_root}
use Rattle.free_sources.specs.Free.{higher, highest_in, lacks, FreeRows}

-- over no marks it is 0
pub highest_none : (t : List ℕ) (l q : ℕ) → highest_in t l q 0 ≡ 0
unfolding highest_in
highest_none t l q = refl

-- over one mark more
pub highest_next : (t : List ℕ) (l q k : ℕ) → highest_in t l q (k + 1) ≡ higher (highest_in t l q k) (get_or t (place suffix_base l k q) 0)
unfolding highest_in
highest_next t l q k = ap (highest_in t l q) (add-one k)

-- it is never above the number for Missing
pub highest_small : (t : List ℕ) (l q k : ℕ) → highest_in t l q k ≤ inf
unfolding highest_in
highest_small t l q zero = omega arith
highest_small t l q (suc k) = go (ltb (get_or t (place suffix_base l k q) 0) inf) refl (highest_small t l q k)
  where
    go : (b : Bool) → ltb (get_or t (place suffix_base l k q) 0) inf ≡ b → highest_in t l q k ≤ inf → cond b (max (highest_in t l q k) (get_or t (place suffix_base l k q) 0)) (highest_in t l q k) ≤ inf
    go true e h = omega (arith, ltb-true (get_or t (place suffix_base l k q) 0) inf e)
    go false e h = h

-- no row is there yet
pub rows_none : (t : List ℕ) (l : ℕ) (w : List ℕ) → FirstRow w → FreeRows t l w 0
rows_none t l w r =
    record {
      size = r.size;
      rows = λ k q h. absurd (omega arith);
      marks = λ k h. absurd (omega arith);
      memo = λ _. let m = memo_root t w r in record { none = m.none; steep = λ k h. absurd (omega arith); right = λ k i h. absurd (omega arith) };
    }

-- one row more
pub rows_more : (t : List ℕ) (l : ℕ) (w w' : List ℕ) (n : ℕ) (tops : List ℕ) → ((q : ℕ) → q < lane_count_lem → get_or tops q 0 ≡ highest_in t l q (l + 1))
    → Put lane_count_lem (λ (q : ℕ). lacks (get_or tops q 0) (get_or t (place suffix_base l n q) 0)) w w' n n → (lanes_in t ≡ lane_count_lem → Memo t w n → Memo t w' (n + 1)) → FreeRows t l w n → FreeRows t l w' (n + 1)
rows_more t l w w' n tops e u m r =
    record {
      size = u.kept.size ∙ r.size;
      rows = λ k q h g. row_at k q (omega arith) g (ℕ_discrete k n);
      marks = λ k h. mark_at k (omega arith) (ℕ_discrete k n);
      memo = λ z. m z (r.memo z);
    }
  where
    row_at : (k q : ℕ) → k ≤ n → q < lane_count_lem → Dec (k ≡ n) → get_or w' (row_place k q) 0 ≡ lacks (highest_in t l q (l + 1)) (get_or t (place suffix_base l k q) 0)
    row_at k q h g (yes z) = rw z (u.row q g ∙ ap (λ (v : ℕ). lacks v (get_or t (place suffix_base l n q) 0)) (e q g))
    row_at k q h g (no z) = let j : k < n = ≠_lt k n z h in u.kept.rows (row_place k q) (omega arith) ∙ r.rows k q j g

    mark_at : (k : ℕ) → k ≤ n → Dec (k ≡ n) → get_or w' (mark_place k) 0 ≡ k
    mark_at k h (yes z) = rw z u.mark
    mark_at k h (no z) = let j : k < n = ≠_lt k n z h in u.kept.marks k j ∙ r.marks k j

-- sums of numbers that are equal
pub sum_same : {f g : ℕ → ℕ} (q k : ℕ) → ((i : ℕ) → q ≤ i → i < q + k → f i ≡ g i) → sum_from f q k ≡ sum_from g q k
unfolding sum_from
sum_same q zero h = refl
sum_same q (suc k) h = ap₂ (λ (a b : ℕ). a + b) (h q (omega arith) (omega arith)) (sum_same (suc q) k (λ i a b. h i (omega arith) (omega arith)))
