-- Rows of lanes in the tables, and the first of them that lasts.
use Prim.Native.Nat.{ℕ, zero, suc, ◌+◌, ◌*◌, ◌-◌, ◌/◌, ◌≤◌, ◌<◌, min}
use mathlib.Core.Path.{◌≡◌, refl, sym, ◌∙◌, ap, subst}
use mathlib.Core.List.{List, [], ◌++◌}
use native.Mathlib.Omega.{arith}
use lib.ListN.{length, get_or, take, drop, replicate, length-take}
use lib.Seq.{get_or-take, get_or-drop}
use Rattle.std.proofs.Common.{Option, Some, None}
use Rattle.std.proofs.lemmas.List.{get_or_append_left, get_or-append_right, drop-drop}
use Rattle.std.specs.List.{AllWithin, HoldsAt}
use Rattle.std.specs.Option.{MatchOption, unwrap_or}
use Rattle.std.specs.Simd.{first_chunks}
use Rattle.lane_rows.specs.Layout.{inf, place, price_base}
use Rattle.ascent_lanes.specs.Tables.{Scales, SomeLasts, NoneLasts, FirstMark}

-- a list of noughts has nothing anywhere
pub nought : (n k : ℕ) → get_or (replicate {A = ℕ} n 0) k 0 ≡ 0
nought zero k = refl
nought (suc n) zero = refl
nought (suc n) (suc k) = nought n k

-- prices for all openings, and nothing behind
pub prices_end : (t : List ℕ) (scale : ℕ) (xs : List ℕ) → length xs ≡ 1024 → ((k : ℕ) → k < 1024 → get_or xs k 0 ≡ min inf (get_or t (price_base + k) 0 * scale)) → Scales t scale (xs ++ replicate {A = ℕ} 16 0)
prices_end t scale xs n h = record {
  priced = λ k l. get_or_append_left xs (replicate {A = ℕ} 16 0) 0 k (omega (arith, l, n)) ∙ h k l;
  end = λ k l. get_or-append_right xs (replicate {A = ℕ} 16 0) 1024 k 0 n l ∙ nought 16 (k - 1024);
}

-- row m of the rows of sixteen
chunk_at : (k : ℕ) (xs : List ℕ) (m : ℕ) (d : List ℕ) → m < k → get_or (first_chunks 16 k xs) m d ≡ take 16 (drop (m * 16) xs)
chunk_at zero xs m d h = absurd (omega arith)
chunk_at (suc k) xs zero d h = refl
chunk_at (suc k) xs (suc m) d h = chunk_at k (drop 16 xs) m d (omega arith) ∙ ap (λ (ys : List ℕ). take 16 ys) (drop-drop (m * 16) 16 xs ∙ ap (λ (n : ℕ). drop n xs) next)
  where
    next : 16 + m * 16 ≡ suc m * 16
    next = omega arith

module _ (t : List ℕ) (a n : ℕ) (ls : List (List ℕ)) (front : ls ≡ first_chunks 16 (length (take n (drop a t)) / 16) (take n (drop a t)))
    (size : length ls ≡ length (take n (drop a t)) / 16) where
  -- lane q of row m of what stands in the tables from a place on
  pub row_at : (m q : ℕ) (d : List ℕ) → m < length ls → q < 16 → get_or (get_or ls m d) q 0 ≡ get_or t (a + m * 16 + q) 0
  row_at m q d l g = let xs = take n (drop a t) in
      let inside : m * 16 + q < n = omega (arith, l, g, simp length-take at size) in
      let place : a + (m * 16 + q) ≡ a + m * 16 + q = omega arith in
      ap (λ (rows : List (List ℕ)). get_or (get_or rows m d) q 0) front
      ∙ ap (λ (r : List ℕ). get_or r q 0) (chunk_at (length xs / 16) xs m d (omega (arith, l, size)))
      ∙ get_or-take 16 (drop (m * 16) xs) q 0 g
      ∙ get_or-drop (m * 16) xs q 0
      ∙ get_or-take n (drop a t) (m * 16 + q) 0 inside
      ∙ get_or-drop a t (m * 16 + q) 0
      ∙ ap (λ (x : ℕ). get_or t x 0) place

module _ (t : List ℕ) (base j parts : ℕ) (ls : List (List ℕ)) (few : parts ≤ 16) (long : j ≤ length ls)
    (reads : (m q : ℕ) (d : List ℕ) → m < length ls → q < 16 → get_or (get_or ls m d) q 0 ≡ get_or t (place base j m q) 0) where
  -- the first row that lasts, if it stands before row j, and else j
  mark_at : (i : ℕ) → AllWithin (NoneLasts parts) ls 0 (min i j) → (i < j → HoldsAt (SomeLasts parts) ls i) → FirstMark t base j parts (min i j)
  mark_at i none some = record {
    within = omega arith;
    none_before = λ m q l g. let e = reads m q [] (omega (arith, l, long)) (omega (arith, g, few)) in let z = none m [] (omega arith) l q g in omega (arith, e, z);
    lasts = λ l. let w : i < j = omega (arith, l) in
        let z : min i j ≡ i = omega (arith, l) in
        let h = some w [] in
        let e = reads i h.0 [] (omega (arith, w, long)) (omega (arith, h.1, few)) in
        (h.0, h.1, subst (λ (m : ℕ). get_or t (place base j m h.0) 0 < inf) (sym z) (omega (arith, h.2, e)));
  }

  -- and so is what the search over the rows finds, where one past row j counts as none
  pub first_mark_at : (r : Option ℕ) → MatchOption r (AllWithin (NoneLasts parts) ls 0 (length ls)) (λ i. (i < length ls) × HoldsAt (SomeLasts parts) ls i × AllWithin (NoneLasts parts) ls 0 i) → FirstMark t base j parts (min (unwrap_or r j) j)
  first_mark_at None h = mark_at j (λ m d z l. h m d z (omega (arith, l, long))) (λ l. absurd (omega (arith, l)))
  first_mark_at (Some i) h = mark_at i (λ m d z l. h.2 m d z (omega (arith, l))) (λ l. h.1)
