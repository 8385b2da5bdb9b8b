-- The memo stays right: a row more of it is the least of the row before and one row's sum, it speaks only of rows that are kept, and what it knew of a new row is forgotten.
use Prim.Native.Nat.{ℕ, zero, suc, ◌+◌, ◌-◌, ◌*◌, ◌<◌, ◌≤◌, min}
use mathlib.Core.Path.{◌≡◌, refl, sym, ap, ap₂, subst, ◌∙◌}
use mathlib.Core.List.{List}
use native.Mathlib.Omega.{arith}
use native.Mathlib.Numerals.{add-one}
use native.Mathlib.Decide.{ℕ_discrete, dec_lt}
use borrow.Author.Count.{below_more}
use lib.ListN.{get_or, set, length-set}
use lib.Seq.{get_or-set_same, get_or-set_other}
use Rattle.base.specs.Filled.{FilledBy}
use Rattle.model.specs.Limits.{most_openings}
use Rattle.lane_rows.specs.Layout.{lane_count_lem, mark_count, inf, triangle, suffix_base, place, row_place, mark_place, known_base, known_place, memo_base, memo_place, lanes_in, stack_size}
use Rattle.lane_rows.specs.Rows.{lane, sum_lanes, Kept, Put, Past, Remembers, Memo, step_of, StepAsks, Stepped, FoursAsks, Looks, Known, Recalled, Still, Learnt, Looked, FirstRow, Nones}
use Rattle.lane_rows.proofs.Rising.{row_below, row_inside}
use Rattle.lane_rows.proofs.Lanes.{lane_most, lane_nil, lane-suc, sum_same, kept_refl, kept_then, ≠_lt}

-- the rows that a lane looks at are kept
pub lane_kept : (t w w' : List ℕ) (base l q n k : ℕ) → Kept w w' n → q < lane_count_lem → k ≤ n → lane t w' base l q k ≡ lane t w base l q k
unfolding lane
lane_kept t w w' base l q n zero kp h g = refl
lane_kept t w w' base l q n (suc k) kp h g =
    (λ i. min (lane_kept t w w' base l q n k kp h (omega arith) i) (kp.rows (row_place k q) (omega arith) i + get_or t (place base l (kp.marks k (omega arith) i) q) 0))

-- a row of the memo stands within the stack, with a row's room behind it
memo_room : (l k : ℕ) → l ≤ most_openings → k ≤ l + 1 → memo_place l k lane_count_lem + lane_count_lem ≤ stack_size
memo_room l k h g = omega (arith, row_inside (l + 1) k (mark_count + 1) g (omega arith))

-- rows of two levels stand apart
memo_apart : (l k l' k' : ℕ) → k ≤ l + 1 → k' ≤ l' + 1 → triangle (l + 1) + k ≡ triangle (l' + 1) + k' → l ≡ l'
memo_apart l k l' k' h h' e = go (dec_lt l l') (dec_lt l' l)
  where
    go : Dec (l < l') → Dec (l' < l) → l ≡ l'
    go (yes a) d = absurd (omega (arith, e, row_below (l + 1) k (l' + 1) h (omega arith)))
    go (no a) (yes b) = absurd (omega (arith, e, row_below (l' + 1) k' (l + 1) h' (omega arith)))
    go (no a) (no b) = omega (arith, a, b)

-- so do two rows of the memo
place_apart : (l k l' k' q q' : ℕ) → k ≤ l + 1 → k' ≤ l' + 1 → q < lane_count_lem → q' < lane_count_lem → memo_place l k q ≡ memo_place l' k' q' → (l ≡ l') × (k ≡ k')
place_apart l k l' k' q q' h h' a a' e =
    let z : triangle (l + 1) + k ≡ triangle (l' + 1) + k' = omega (arith, e) in
    let y = memo_apart l k l' k' h h' z in
    let x : triangle (l + 1) ≡ triangle (l' + 1) = ap (λ (i : ℕ). triangle (i + 1)) y in
    (y, omega (arith, z, x))

-- ---- a look

module _ (t w : List ℕ) (n m j : ℕ) (s : Looks t w n j) (h : m < n) (kn : Known w m j) where
  -- the memo of the first m rows is there
  before : Remembers t w j m
  before = go m refl
    where
      go : (k : ℕ) → m ≡ k → Remembers t w j k
      go zero e = λ q l. s.memo.none j q s.stack.near (omega (arith, s.stack.narrow)) ∙ sym (lane_nil t w suffix_base j q)
      go (suc k) e =
          let z : k < n = omega arith in
          let x : k + 1 ≡ suc k = add-one k in
          let y : get_or w (known_place (k + 1) j) 0 ≡ 1 = ap (λ (i : ℕ). get_or w (known_place i j) 0) (x ∙ sym e) ∙ kn (omega arith) in
          subst (Remembers t w j) x (s.memo.right k j z (s.stack.marks k z) s.stack.near y)

  abbrev mark : ℕ
  mark = get_or w (mark_place m) 0

  -- where the table's row of suffix prices at level j, for row m's mark, begins
  abbrev pub from : ℕ
  from = suffix_base + (triangle j + mark) * lane_count_lem

  -- where the memo's row for level j and the first m + 1 rows begins
  abbrev pub out : ℕ
  out = memo_base + (triangle (j + 1) + (m + 1)) * lane_count_lem

  -- that the memo knows its next row is noted first
  abbrev pub noted : List ℕ
  noted = set w (known_place (m + 1) j) 1

  below : m ≤ j
  below = omega (arith, s.stack.few)

  still : (x : ℕ) → (x ≡ known_place (m + 1) j → ⊥) → get_or noted x 0 ≡ get_or w x 0
  still x e = get_or-set_other w (known_place (m + 1) j) x 1 0 e

  -- what stood in the memo before its next row
  last : (q : ℕ) → q < lanes_in t → get_or noted (out - lane_count_lem + q) 0 ≡ lane t w suffix_base j q m
  last q l =
      let z : out - lane_count_lem + q ≡ memo_place j m q = omega arith in
      still (out - lane_count_lem + q) (λ e. omega (arith, e, below, s.stack.near)) ∙ ap (λ (x : ℕ). get_or w x 0) z ∙ before q l

  this : (q : ℕ) → q < lanes_in t → get_or noted (m * lane_count_lem + q) 0 ≡ get_or w (row_place m q) 0
  this q l = still (row_place m q) (λ e. omega (arith, e, below, s.stack.near, s.stack.narrow))

  -- the memo's next row may be written from row m of the stack and the table's row for its mark
  pub step_asks : StepAsks (lanes_in t) t noted (m * lane_count_lem) from out
  step_asks =
      record {
        some = s.stack.some;
        narrow = s.stack.narrow;
        table = omega (arith, s.stack.table, row_inside j mark mark_count (s.stack.marks m h) (omega (arith, s.stack.near)));
        row = omega (arith, length-set w (known_place (m + 1) j) 1, s.stack.size, below, s.stack.near);
        behind = omega arith;
        room = omega (arith, length-set w (known_place (m + 1) j) 1, s.stack.size, memo_room j (m + 1) s.stack.near (omega (arith, below)));
        most = λ q l. omega (arith, last q l, lane_most t w suffix_base j q m);
        sums = λ q l. omega (arith, this q l, s.stack.sums m q h l);
      }

  -- the memo's next row may be written four after four, with a row's room behind what is read and written
  pub fours_asks : FoursAsks t noted (m * lane_count_lem) from out
  fours_asks =
      record {
        asks = step_asks;
        apart = omega (arith, below, s.stack.near);
        table = omega (arith, s.size, row_inside j mark mark_count (s.stack.marks m h) (omega (arith, s.stack.near)));
        room = omega (arith, length-set w (known_place (m + 1) j) 1, s.stack.size, memo_room j (m + 1) s.stack.near (omega (arith, below)));
      }

  step_is : (q : ℕ) → q < lanes_in t → step_of t noted (m * lane_count_lem) from out q ≡ lane t w suffix_base j q (m + 1)
  step_is q l =
      ap₂ (λ (x y : ℕ). min x (y + get_or t (place suffix_base j mark q) 0)) (last q l) (this q l)
      ∙ sym (lane-suc t w suffix_base j q m) ∙ ap (lane t w suffix_base j q) (sym (add-one m))

  module _ (w' : List ℕ) (r : ℕ) (u : Stepped (lanes_in t) t noted w' (m * lane_count_lem) from out r) where
    narrow : lanes_in t ≤ lane_count_lem
    narrow = s.stack.narrow

    under : (x : ℕ) → x < known_base → get_or w' x 0 ≡ get_or w x 0
    under x l = u.stored.rest x (λ q g e. omega (arith, e)) ∙ still x (λ e. omega (arith, e))

    kept : Kept w w' mark_count
    kept =
        record {
          size = u.stored.size ∙ length-set w (known_place (m + 1) j) 1;
          rows = λ k l. under k (omega arith);
          marks = λ k l. under (mark_place k) (omega arith);
        }

    -- a row of the memo that is not the next one
    other : (l k q : ℕ) → l ≤ most_openings → k ≤ l + 1 → q < lane_count_lem → ((l ≡ j) × (k ≡ m + 1) → ⊥) → get_or w' (memo_place l k q) 0 ≡ get_or w (memo_place l k q) 0
    other l k q a b c f =
        u.stored.rest (memo_place l k q) (λ i g e. f (place_apart l k j (m + 1) q i b (omega (arith, below)) c (omega (arith, narrow)) e))
        ∙ still (memo_place l k q) (λ e. omega (arith, e, below, s.stack.near))

    knows : (k l : ℕ) → k ≤ most_openings → l ≤ most_openings → get_or w' (known_place (k + 1) l) 0 ≡ get_or noted (known_place (k + 1) l) 0
    knows k l a b = u.stored.rest (known_place (k + 1) l) (λ q g e. omega (arith, e))

    marked : (k : ℕ) → k < n → get_or w' (mark_place k) 0 ≡ get_or w (mark_place k) 0
    marked k l = kept.marks k (omega (arith, s.stack.few, s.stack.near))

    same : (l q k : ℕ) → q < lanes_in t → k ≤ n → lane t w suffix_base l q k ≡ lane t w' suffix_base l q k
    same l q k g b = sym (lane_kept t w w' suffix_base l q mark_count k kept (omega (arith, narrow)) (omega (arith, s.stack.few, s.stack.near)))

    right : (k l : ℕ) → k < n → get_or w' (mark_place k) 0 ≤ l → l ≤ most_openings → get_or w' (known_place (k + 1) l) 0 ≡ 1 → Remembers t w' l (k + 1)
    right k l a b c e q g = go (ℕ_discrete l j) (ℕ_discrete k m)
      where
        deep : k + 1 ≤ l + 1
        deep = omega (arith, s.memo.steep k a, marked k a, b)

        old : ((l ≡ j) × (k ≡ m) → ⊥) → get_or w' (memo_place l (k + 1) q) 0 ≡ lane t w' suffix_base l q (k + 1)
        old f =
            let y : get_or w (known_place (k + 1) l) 0 ≡ 1 =
            sym (still (known_place (k + 1) l) (λ z. f (omega (arith, z, c, s.stack.near), omega (arith, z, c, s.stack.near)))) ∙ sym (knows k l (omega (arith, deep, c)) c) ∙ e in
            other l (k + 1) q c deep (omega (arith, narrow)) (λ z. f (z.0, omega (arith, z.1)))
            ∙ s.memo.right k l a (omega (arith, marked k a)) c y q g ∙ same l q (k + 1) g (omega arith)

        go : Dec (l ≡ j) → Dec (k ≡ m) → get_or w' (memo_place l (k + 1) q) 0 ≡ lane t w' suffix_base l q (k + 1)
        go (yes x) (yes y) =
            let z : memo_place l (k + 1) q ≡ out + q = (λ i. memo_place (x i) (y i + 1) q) in
            ap (λ (i : ℕ). get_or w' i 0) z ∙ u.stored.done q g ∙ step_is q g
            ∙ (λ i. lane t w suffix_base (sym x i) q (sym y i + 1)) ∙ same l q (k + 1) g (omega arith)
        go (yes x) (no y) = old (λ z. y z.1)
        go (no x) d = old (λ z. x z.0)

    still_known : Still w w'
    still_known k l a b e = knows k l a b ∙ go (ℕ_discrete (known_place (k + 1) l) (known_place (m + 1) j))
      where
        go : Dec (known_place (k + 1) l ≡ known_place (m + 1) j) → get_or noted (known_place (k + 1) l) 0 ≡ 1
        go (yes z) = ap (λ (i : ℕ). get_or noted i 0) z ∙ get_or-set_same w (known_place (m + 1) j) 1 0 (omega (arith, s.stack.size, below, s.stack.near))
        go (no z) = still (known_place (k + 1) l) z ∙ e

    -- with its next row written, the memo stays right, knows one row more, and the row's sum is held
    pub learnt : Learnt t w w' n m j r
    learnt =
        record {
          recalled = record {
            kept = let a = s.stack.few in let b = s.stack.near in record { size = kept.size; rows = λ k l. kept.rows k (omega arith); marks = λ k l. kept.marks k (omega arith) };
            memo = record {
              none = λ l q a b. other l 0 q a (omega arith) b (λ z. omega (arith, z.1)) ∙ s.memo.none l q a b;
              steep = λ k l. omega (arith, marked k l, s.memo.steep k l);
              right = right;
            };
          };
          known = knows m j (omega (arith, below, s.stack.near)) s.stack.near ∙ get_or-set_same w (known_place (m + 1) j) 1 0 (omega (arith, s.stack.size, below, s.stack.near));
          still = still_known;
          sum = u.sum ∙ sum_same (lanes_in t) (step_of t noted (m * lane_count_lem) from out) (λ (q : ℕ). lane t w suffix_base j q (m + 1)) step_is;
        }

-- the memo is as right after a look as before
pub looks_again : (t w w' : List ℕ) (n j : ℕ) → Looks t w n j → Recalled t w w' n → Looks t w' n j
looks_again t w w' n j s r =
    record {
      memo = r.memo;
      stack = record {
        some = s.stack.some;
        narrow = s.stack.narrow;
        table = s.stack.table;
        size = r.kept.size ∙ s.stack.size;
        near = s.stack.near;
        few = s.stack.few;
        marks = λ k l. omega (arith, r.kept.marks k l, s.stack.marks k l);
        sums = λ k q l g.
            let x = r.kept.rows (row_place k q) (omega (arith, s.stack.narrow)) in
            let y : get_or t (place suffix_base j (get_or w' (mark_place k) 0) q) 0 ≡ get_or t (place suffix_base j (get_or w (mark_place k) 0) q) 0 = ap (λ (i : ℕ). get_or t (place suffix_base j i q) 0) (r.kept.marks k l) in
            omega (arith, x, y, s.stack.sums k q l g);
      };
      size = s.size;
      some = s.some;
    }

-- where nothing moved the rows are kept and their memo is right
pub recalled_none : (t w : List ℕ) (n : ℕ) → Memo t w n → Recalled t w w n
recalled_none t w n m = record { kept = kept_refl w n; memo = m }

-- fewer rows, kept before
pub recalled_then : (t u v w : List ℕ) (m n : ℕ) → m ≤ n → Kept u v m → Recalled t v w n → Recalled t u w m
recalled_then t u v w m n h a b =
    record {
      kept = kept_then u v w m n h a b.kept;
      memo = record { none = b.memo.none; steep = λ k l. b.memo.steep k (omega arith); right = λ k l g. b.memo.right k l (omega arith) };
    }

-- so the lanes' sum over all of them is the same
pub sum_kept : (t w w' : List ℕ) (n j : ℕ) → lanes_in t ≤ lane_count_lem → Kept w w' n → sum_lanes (lanes_in t) (λ (q : ℕ). lane t w' suffix_base j q n) ≡ sum_lanes (lanes_in t) (λ (q : ℕ). lane t w suffix_base j q n)
sum_kept t w w' n j h k = sum_same (lanes_in t) (λ (q : ℕ). lane t w' suffix_base j q n) (λ (q : ℕ). lane t w suffix_base j q n) (λ q l. lane_kept t w w' suffix_base j q n n k (omega arith) (omega arith))

-- the memo learns row by row: the rows are kept, the memo is right, and known up to row m; once that is the top one, its sum is held
pub record Looking (t w₀ w : List ℕ) (rows j m sum : ℕ) : Type 0 where
  -- the memo is known of no more rows than there are
  pub inside : m ≤ rows
  -- the stack's rows are kept, and their memo is still right
  pub recalled : Recalled t w₀ w rows
  -- what the memo has of the first m rows at this level is known
  pub known : Known w m j
  -- once all rows are known, the sum held is that of their lanes
  pub all : m ≡ rows → sum ≡ sum_lanes (lanes_in t) (λ (q : ℕ). lane t w₀ suffix_base j q rows)
  -- what the memo knew at the start of the look it still knows
  pub still : Still w₀ w

-- a look may start at any number of rows that the memo knows, with no sum held yet
pub looking_first : (t w : List ℕ) (rows j m : ℕ) → Looks t w rows j → m < rows → Known w m j → Looking t w w rows j m 0
looking_first t w rows j m s h kn = record { inside = omega (arith, h); recalled = recalled_none t w rows s.memo; known = kn; all = (λ z. absurd (omega (arith, z, h))); still = λ k l a b e. e }

-- once the memo learns the next row, the look is one row further and holds its sum
pub looking_next : (t w₀ w w' : List ℕ) (rows j m sum r : ℕ) → Looks t w₀ rows j → Looking t w₀ w rows j m sum → m < rows → Learnt t w w' rows m j r → Looking t w₀ w' rows j (m + 1) r
looking_next t w₀ w w' rows j m sum r s l h e =
    record {
      inside = omega (arith, h);
      recalled = record { kept = kept_then w₀ w w' rows rows (omega arith) l.recalled.kept e.recalled.kept; memo = e.recalled.memo };
      known = (λ z. e.known);
      all = (λ z. subst (λ (n : ℕ). r ≡ sum_lanes (lanes_in t) (λ (q : ℕ). lane t w suffix_base j q n)) z e.sum ∙ sum_kept t w₀ w rows j s.stack.narrow l.recalled.kept);
      still = λ k i a b x. e.still k i a b (l.still k i a b x);
    }

-- at the top row the look is over: all rows are known, and the sum of their lanes is held
pub looking_last : (t w₀ w : List ℕ) (rows j m sum : ℕ) → Looks t w₀ rows j → Looking t w₀ w rows j m sum → rows ≤ m → Looked t w₀ w rows j sum
looking_last t w₀ w rows j m sum s l h =
    let z : m ≡ rows = omega (arith, h, l.inside) in
    record { sum = l.all z; recalled = l.recalled; known = subst (λ (n : ℕ). get_or w (known_place n j) 0 ≡ 1) z (l.known (omega (arith, z, s.some))); still = l.still }

-- ---- a new row

module _ (wide : ℕ) (f : ℕ → ℕ) (w u w' : List ℕ) (n m : ℕ) (p : Put wide f w u n m) (past : Past w u) (g : FilledBy (λ (y : ℕ). known_place (n + 1) (m + y)) (λ (y : ℕ). 0) (mark_count - m) u w') (few : n < mark_count) (near : m ≤ most_openings) (narrow : wide ≤ lane_count_lem) where
  marks_stay : (x : ℕ) → x < known_base → get_or w' x 0 ≡ get_or u x 0
  marks_stay x l = g.rest x (λ y h e. omega (arith, e))

  -- the rows below a new one are kept, also where the memo of the new row is forgotten
  pub kept_put : Kept w w' n
  kept_put =
      record {
        size = g.size ∙ p.kept.size;
        rows = λ k l. marks_stay k (omega arith) ∙ p.kept.rows k l;
        marks = λ k l. marks_stay (mark_place k) (omega arith) ∙ p.kept.marks k l;
      }

  -- the new row and its mark stand on the stack after the memo has forgotten the new row's levels
  pub put_forgets : Put wide f w w' n m
  put_forgets = record { kept = kept_put; row = λ q l. marks_stay (row_place n q) (omega arith) ∙ p.row q l; mark = marks_stay (mark_place n) (omega arith) ∙ p.mark }

  -- the memo is right for one row more, once what it knew of the new row is forgotten
  pub memo_put : (t : List ℕ) → lanes_in t ≤ lane_count_lem → n ≤ m → Memo t w n → Memo t w' (n + 1)
  memo_put t thin deep me =
      record {
        none = λ l q a b. over (memo_place l 0 q) (omega arith) ∙ me.none l q a b;
        steep = λ k l. steep_at k (omega arith) (ℕ_discrete k n);
        right = λ k l a b c e. right_at k l (omega arith) b c e (ℕ_discrete k n);
      }
    where
      over : (x : ℕ) → memo_base ≤ x → get_or w' x 0 ≡ get_or w x 0
      over x l = g.rest x (λ y h e. omega (arith, e)) ∙ past x (omega arith)

      newest : get_or w' (mark_place n) 0 ≡ m
      newest = put_forgets.mark

      steep_at : (k : ℕ) → k ≤ n → Dec (k ≡ n) → k ≤ get_or w' (mark_place k) 0
      steep_at k l (yes e) = rw e (omega (arith, newest))
      steep_at k l (no e) = let z : k < n = ≠_lt k n e l in omega (arith, kept_put.marks k z, me.steep k z)

      right_at : (k l : ℕ) → k ≤ n → get_or w' (mark_place k) 0 ≤ l → l ≤ most_openings → get_or w' (known_place (k + 1) l) 0 ≡ 1 → Dec (k ≡ n) → Remembers t w' l (k + 1)
      right_at k l a b c d (yes e) =
          let x : m ≤ l = omega (arith, newest, ap (λ (i : ℕ). get_or w' (mark_place i) 0) e, b) in
          let y : known_place (k + 1) l ≡ known_place (n + 1) (m + (l - m)) = omega (arith, e, x) in
          absurd (omega (arith, d, ap (λ (i : ℕ). get_or w' i 0) y, g.done (l - m) (omega (arith, x, c))))
      right_at k l a b c d (no e) = λ q h.
          let z : k < n = ≠_lt k n e a in
          let s : k ≤ l = omega (arith, me.steep k z, kept_put.marks k z, b) in
          let y : get_or w (known_place (k + 1) l) 0 ≡ 1 = sym (g.rest (known_place (k + 1) l) (λ y i v. omega (arith, v, z, c, near, few)) ∙ past (known_place (k + 1) l) (omega arith)) ∙ d in
          over (memo_place l (k + 1) q) (omega arith) ∙ me.right k l z (omega (arith, kept_put.marks k z, b)) c y q h
          ∙ sym (lane_kept t w w' suffix_base l q n (k + 1) kept_put (omega (arith, thin)) (omega arith))

-- ---- the first row

-- at none of the first 0 levels is a row of no rows asked of the memo, and nothing moved
pub nones_none : (w : List ℕ) → Nones w w 0
nones_none w = record { size = refl; none = λ l q a b. absurd (omega arith); rest = λ x l. refl }

-- one level more
pub nones_more : (w u v : List ℕ) (n : ℕ) → FilledBy (memo_place n 0) (λ (q : ℕ). inf) lane_count_lem u v → Nones w u n → Nones w v (n + 1)
nones_more w u v n f d =
    record {
      size = f.size ∙ d.size;
      none = λ l q a b.
          below_more (λ (i : ℕ). get_or v (memo_place i 0 q) 0 ≡ inf) n
          (λ i g. f.rest (memo_place i 0 q) (λ y h e. let z = (place_apart i 0 n 0 q y (omega arith) (omega arith) b h e).0 in omega (arith, z)) ∙ d.none i q g b)
          (f.done q b) l a;
      rest = λ x l. f.rest x (λ y h e. omega (arith, e)) ∙ d.rest x l;
    }

-- with the row of the first life alone the memo is right
pub memo_root : (t w : List ℕ) → FirstRow w → Memo t w 1
memo_root t w r =
    record {
      none = r.none;
      steep = λ k l. omega arith;
      right = λ k l a b c e. let z : known_place (k + 1) l ≡ known_place 1 l = omega arith in absurd (omega (arith, e, ap (λ (i : ℕ). get_or w i 0) z, r.fresh l c));
    }
