-- After a look at both levels of a stop the memo has both rows, side by side: the lanes where it is shut, and where it is allowed.
use Prim.Native.Nat.{ℕ, ◌+◌, ◌-◌, ◌*◌, ◌<◌, ◌≤◌}
use mathlib.Core.Path.{◌≡◌, ap, subst, ◌∙◌}
use mathlib.Core.Bool.{cond}
use mathlib.Core.List.{List}
use native.Mathlib.Omega.{arith}
use lib.ListN.{get_or}
use Rattle.lane_rows.specs.Layout.{lane_count_lem, mark_count, suffix_base, triangle, mark_place, known_place, memo_base, memo_place, lanes_in}
use Rattle.lane_rows.specs.Rows.{lane, sum_lanes, Looks, Recalled}
use Rattle.lane_rows.proofs.Rising.{triangle_next, row_inside}
use Rattle.lane_rows.proofs.Lanes.{lane_most, sum_same}
use Rattle.lane_rows.proofs.Memory.{lane_kept, recalled_then}
use Rattle.held_lanes.specs.Places.{bit_at}
use Rattle.held_lanes.specs.Tables.{shut_lane, ShutAsks}
use Rattle.held_stops.specs.Stops.{ReadAt, stop_lane, LooksAtStop}

-- what is known of the first n rows is the lane over them
remembered : (t w w' : List ℕ) (n l : ℕ) → Looks t w n l → Recalled t w w' n → get_or w' (known_place n l) 0 ≡ 1 → (q : ℕ) → q < lanes_in t → get_or w' (memo_place l n q) 0 ≡ lane t w suffix_base l q n
remembered t w w' n l s r e q h =
    let g = s.some in
    let z : n - 1 + 1 ≡ n = omega arith in
    let k : n - 1 < n = omega arith in
    let m : get_or w' (mark_place (n - 1)) 0 ≤ l = omega (arith, r.kept.marks (n - 1) k, s.stack.marks (n - 1) k) in
    subst (λ (i : ℕ). get_or w' (memo_place l i q) 0 ≡ lane t w' suffix_base l q i) z (r.memo.right (n - 1) l k m s.stack.near (ap (λ (i : ℕ). get_or w' (known_place i l) 0) z ∙ e) q h)
    ∙ lane_kept t w w' suffix_base l q n n r.kept (omega (arith, s.stack.narrow)) (omega arith)

module _ (t u w w₁ w₂ : List ℕ) (n j row : ℕ) (s : LooksAtStop t u w n j) (a : ReadAt t w w₁ n (j - 1)) (b : ReadAt t w₁ w₂ n j) (e : row ≡ triangle j) where
  abbrev one : ℕ
  one = memo_base + (row + n) * lane_count_lem

  abbrev two : ℕ
  two = memo_base + (row + (j + 1) + n) * lane_count_lem

  -- after both looks the rows are kept, and their memo is still right
  pub all_recalled : Recalled t w w₂ n
  all_recalled = recalled_then t w w₁ w₂ n n (omega arith) a.recalled.kept b.recalled

  allowed_at : (q : ℕ) → q < lanes_in t → get_or w₂ (one + q) 0 ≡ lane t w suffix_base (j - 1) q n
  allowed_at q l =
      let h = s.later in
      let g = s.allowed.some in
      let f = s.allowed.stack.few in
      let d = s.allowed.stack.near in
      let y : j - 1 + 1 ≡ j = omega arith in
      let x : triangle (j - 1 + 1) ≡ triangle j = ap triangle y in
      let z : one + q ≡ memo_place (j - 1) n q = omega (arith, x, e) in
      let k : n - 1 + 1 ≡ n = omega arith in
      let known = subst (λ (i : ℕ). get_or w₂ (known_place i (j - 1)) 0 ≡ 1) k (b.still (n - 1) (j - 1) (omega (arith, f, d)) (omega (arith, d)) (ap (λ (i : ℕ). get_or w₁ (known_place i (j - 1)) 0) k ∙ a.known)) in
      ap (λ (i : ℕ). get_or w₂ i 0) z ∙ remembered t w w₂ n (j - 1) s.allowed all_recalled known q l

  shut_at : (q : ℕ) → q < lanes_in t → get_or w₂ (two + q) 0 ≡ lane t w suffix_base j q n
  shut_at q l =
      let z : two + q ≡ memo_place j n q = omega (arith, triangle_next j, e) in
      ap (λ (i : ℕ). get_or w₂ i 0) z ∙ remembered t w w₂ n j s.shut all_recalled b.known q l

  -- both rows of the memo stand within the stack, so their lanes may be picked and summed
  pub asks : ShutAsks (lanes_in t) u w₂ one two
  asks =
      let h = s.later in
      let f = s.allowed.stack.few in
      let d = s.shut.stack.near in
      record {
        some = s.shut.stack.some;
        narrow = s.shut.stack.narrow;
        masks = s.masks;
        first = omega (arith, e, row_inside j n (mark_count + 1) (omega arith) (omega (arith, d)));
        second = omega (arith, e, triangle_next j, row_inside (j + 1) n (mark_count + 1) (omega arith) (omega (arith, d)));
        most = λ q l. (omega (arith, allowed_at q l, lane_most t w suffix_base (j - 1) q n), omega (arith, shut_at q l, lane_most t w suffix_base j q n));
      }

  -- the sum picked from the memo's two rows is that of the stop's lanes, those of the set shut
  pub sums : (set : ℕ) → sum_lanes (lanes_in t) (shut_lane w₂ one two set) ≡ sum_lanes (lanes_in t) (stop_lane t w j n set)
  sums set = sum_same (lanes_in t) (shut_lane w₂ one two set) (stop_lane t w j n set) (λ q l i. cond (bit_at q set) (shut_at q l i) (allowed_at q l i))
