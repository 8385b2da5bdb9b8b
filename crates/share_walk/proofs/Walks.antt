-- What the walk of a node does: where the limit is reached, where the node is dropped, where it is full, and where both nodes below are walked. And what a look, and the nodes below, leave of what is given.
use Prim.Native.Nat.{ℕ, ◌+◌, ◌-◌, ◌*◌, ◌≤◌, ◌<◌}
use mathlib.Core.Path.{◌≡◌, refl, sym, ap, ap₂, subst, ◌∙◌}
use mathlib.Core.Bool.{Bool, true, false, cond, not, ◌&&◌, true≢false}
use mathlib.Core.List.{List, [], ◌∷◌, ◌++◌}
use native.Mathlib.Omega.{arith}
use native.Mathlib.Numerals.{add-one}
use native.Mathlib.Decide.{dec_lt}
use borrow.Author.Tests.{le-ltb, ltb-false, eqb-true, eq-eqb}
use lib.Dec.{ltb, eqb}
use lib.ListN.{length, get_or, take, set, replicate, length-append, length-replicate, length-set}
use lib.Seq.{take-suc-set, take-take, take_at}
use Rattle.branch.specs.declared.Bound.{Bound}
use Rattle.branch.specs.declared.Bound.TheVariants.{Sum}
use Rattle.branch.specs.Lower.{add}
use Rattle.branch.specs.Search.{Tree, plan, below, snoc, Limited, with_best, counted, limited, onward}
use Rattle.branch.specs.Questions.{left_at}
use Rattle.branch.proofs.Steps.{bound_at, limited_stop, limited_drop, limited_on, left_bound, on_full}
use Rattle.model.specs.Model.{Job}
use Rattle.model.specs.LowerBound.{blocks, inner}
use Rattle.shares.specs.Shares.{Shares}
use Rattle.shares.specs.Sources.{estimate_from}
use Rattle.shares.specs.Dolls.{level_from}
use Rattle.lane_rows.specs.Layout.{lane_count_lem, inf, suffix_base, row_place, lanes_in, stack_size, tables_size}
use Rattle.lane_rows.specs.Tables.{value_of}
use Rattle.lane_rows.specs.Rows.{Level as Numbered, lane, sum_lanes, Kept, Memo, Looks, Recalled}
use Rattle.lane_rows.proofs.Lanes.{lane_most, sum_most}
use Rattle.lane_rows.proofs.Memory.{recalled_none, recalled_then}
use Rattle.share_rows.specs.Places.{share_size}
use Rattle.share_rows.specs.Stacked.{Course, row_most}
use Rattle.share_rows.proofs.Lanes.{looks_at, stacked_kept, top_kept, test_drops, test_opens}
use Rattle.share_walk.specs.declared.Node.{Node}
use Rattle.share_walk.specs.declared.State.{State}
use Rattle.share_walk.specs.State.{name_size, view, counted_s, stopped_s, kept_s, blocks_at, course_bound, tree_at, Numbers, At, Above, kept_rows, Below, SharesWalked}
use Rattle.share_walk.proofs.Nodes.{kept_open, kept_stop, both_below}

-- ---- fewer rows

memo_fewer : (t w : List ℕ) (n : ℕ) → Memo t w n → Memo t w (n - 1)
memo_fewer t w n m = record { none = m.none; steep = λ k l. m.steep k (omega arith); right = λ k l a. m.right k l (omega arith) }

recalled_less : (t w w' : List ℕ) (m n : ℕ) → m ≤ n → Recalled t w w' n → Recalled t w w' m
recalled_less t w w' m n h k =
    record {
      kept = record { size = k.kept.size; rows = λ i l. k.kept.rows i (omega arith); marks = λ i l. k.kept.marks i (omega arith) };
      memo = record { none = k.memo.none; steep = λ i l. k.memo.steep i (omega arith); right = λ i l a. k.memo.right i l (omega arith) };
    }

-- ---- whether something is left to decide

open_is : (a b : Bool) → not (not a && b) ≡ false → (a ≡ false) × (b ≡ true)
open_is true true e = absurd (true≢false e)
open_is true false e = absurd (true≢false e)
open_is false true e = (refl, refl)
open_is false false e = absurd (true≢false e)

-- nothing is
pub none_left : (next h at n : ℕ) → not (not (ltb next h) && eqb at n) ≡ false → (h ≤ next) × (at ≡ n)
none_left next h at n e = let o = open_is (ltb next h) (eqb at n) e in (ltb-false next h o.0, eqb-true at n o.1)

-- something is: a removal, or an opening
pub some_left : (next h at n : ℕ) → not (not (ltb next h) && eqb at n) ≡ true → at ≤ n → next ≡ h → at < n
some_left next h at n e l z = go (dec_lt at n)
  where
    go : Dec (at < n) → at < n
    go (yes g) = g
    go (no g) =
        let y : at ≡ n = omega arith in
        absurd (true≢false (sym e ∙ ap₂ (λ (a b : Bool). not (not a && b)) (le-ltb next h (omega (arith, z))) (eq-eqb at n y)))

-- ---- names

-- one decision more
pub name_more : (name s : List Bool) (n m : ℕ) (b : Bool) → take n name ≡ s → n < length name → m ≡ n + 1 → take m (set name n b) ≡ snoc s b
name_more name s n m b e l z = ap (λ (k : ℕ). take k (set name n b)) (z ∙ add-one n) ∙ take-suc-set name n b l ∙ ap (λ (q : List Bool). q ++ (b ∷ [])) e

-- what stands before it stays, also where a walk kept the longer name
pub name_less : (name name' s : List Bool) (n m : ℕ) (b : Bool) → take m name' ≡ snoc s b → m ≡ n + 1 → length s ≡ n → take n name' ≡ s
name_less name name' s n m b e z l =
    sym (take-take n m name' (omega (arith, z))) ∙ ap (take n) e ∙ take_at s (b ∷ []) n l

module _ (job : Job) (shares : Shares) (course : Course) (s : List Bool) (t x lifts w : List ℕ) (name : List Bool) (p : Node) (a : At job shares course s t x lifts w name p) where
  abbrev nu : Numbers job shares course s t x p
  nu = a.numbers

  rows_some : 0 < p.rows
  rows_some = a.rows.some

  -- ---- a look at the rows

  module _ (w' : List ℕ) (k : Recalled t w w' p.rows) where
    less_kept : Kept w w' (p.rows - 1)
    less_kept = record { size = k.kept.size; rows = λ i l. k.kept.rows i (omega arith); marks = λ i l. k.kept.marks i (omega arith) }

    -- after a look that keeps the rows and their memo the node is given as before
    pub at_looked : At job shares course s t x lifts w' name p
    at_looked =
        record {
          numbers = nu;
          lift = a.lift;
          name_is = a.name_is;
          room = a.room;
          rows = stacked_kept job shares course (blocks_at job course s) w w' p.rows a.rows k.kept;
          memo = k.memo;
          opening = a.opening;
          stop = λ l.
              let o = a.stop l in
              let r = o.row in
              let kt = top_kept job shares course (blocks_at job course o.at_stop.before) o.at_stop.rs w w' (p.rows - 1) (λ (q : ℕ). get_or w (row_place (p.rows - 1) q) 0) r less_kept in
              let same : (q : ℕ) → q < lane_count_lem → get_or w' (row_place (p.rows - 1) q) 0 ≡ get_or w (row_place (p.rows - 1) q) 0 = λ q g. k.kept.rows (row_place (p.rows - 1) q) (omega (arith, rows_some)) in
              record {
                at_stop = o.at_stop;
                row = record { below = kt.below; cost = λ q g. ap value_of (same q g) ∙ kt.cost q g; level = λ q g. subst (Numbered (row_most (length (blocks_at job course o.at_stop.before) + 1))) (sym (same q g)) (kt.level q g) };
                memo = memo_fewer t w' p.rows k.memo;
              };
        }

  -- what the nodes below are made from
  pub above_of : (row : List ℕ) → ((q : ℕ) → q < lane_count_lem → get_or row q 0 ≡ get_or w ((p.rows - 1) * lane_count_lem + q) 0) → Above job shares course s t x w row p
  above_of row e =
      record {
        numbers = nu;
        opening = λ o. record { level = a.opening o; rows = a.rows; memo = a.memo };
        stop = λ l.
            let o = a.stop l in
            let r = o.row in
            record {
              at_stop = o.at_stop;
              row = record { below = r.below; cost = λ q g. ap value_of (e q g) ∙ r.cost q g; level = λ q g. subst (Numbered (row_most (length (blocks_at job course o.at_stop.before) + 1))) (sym (e q g)) (r.level q g) };
              memo = o.memo;
            };
      }

  -- what a look asks, and that its sum fits
  pub look_asks : Looks t w p.rows p.at
  look_asks = subst (Looks t w p.rows) nu.size (looks_at job shares course t w (blocks_at job course s) p.rows nu.tables a.rows (omega (arith, nu.size, nu.inside)) a.memo)

  -- what is spent and the lanes' sum of a look leave room in 64 bits
  pub look_fits : (v : ℕ) → v ≡ sum_lanes (lanes_in t) (λ (q : ℕ). lane t w suffix_base p.at q p.rows) → p.spent + v < 9223372036854775808
  look_fits v e =
      let m = sum_most (λ (q : ℕ). lane t w suffix_base p.at q p.rows) inf 0 (lanes_in t) (λ q. lane_most t w suffix_base p.at q p.rows) in
      let y : lanes_in t * inf ≡ lane_count_lem * inf = ap (λ (k : ℕ). k * inf) nu.tables.wide in
      omega (arith, e, m, y, nu.poor, nu.inside, nu.tables.few, nu.next, nu.shared.few)

  -- the sum of a look is that of all sixteen lanes
  pub look_sum : (v : ℕ) → v ≡ sum_lanes (lanes_in t) (λ (q : ℕ). lane t w suffix_base p.at q p.rows) → v ≡ sum_lanes lane_count_lem (λ (q : ℕ). lane t w suffix_base p.at q p.rows)
  look_sum v e = e ∙ ap (λ (k : ℕ). sum_lanes k (λ (q : ℕ). lane t w suffix_base p.at q p.rows)) nu.tables.wide

  -- numbers of the node
  pub node_fits : (p.at ≤ length job.openings) × (0 < p.rows) × (p.rows ≤ 65) × (p.size ≤ 1088) × (length w ≡ stack_size) × (length t ≡ tables_size) × (length x ≡ share_size)
  node_fits = (nu.inside, a.rows.some, omega (arith, a.rows.few, nu.size, nu.inside, nu.tables.few), omega (arith, nu.short, nu.inside, nu.tables.few), a.rows.size, nu.tables.size, nu.shared.size)

  -- a name has room for one decision more
  pub name_room : (p.next ≡ inner job → p.at < length job.openings) → p.size < 1088
  name_room m = go (dec_lt p.next (inner job))
    where
      go : Dec (p.next < inner job) → p.size < 1088
      go (yes g) = omega (arith, g, nu.short, nu.inside, nu.tables.few)
      go (no g) = let z : p.next ≡ inner job = omega (arith, g, nu.next) in omega (arith, m z, nu.short, nu.tables.few)

  -- ---- the limit, and a node that is dropped

  abbrev h : ℕ
  h = inner job

  pub kept_few : kept_rows h p ≤ p.rows
  kept_few = go (ltb p.next h)
    where
      go : (b : Bool) → cond b (p.rows - 1) p.rows ≤ p.rows
      go true = omega arith
      go false = omega arith

  frame_of : (w' : List ℕ) → Recalled t w w' p.rows → Recalled t w w' (kept_rows h p)
  frame_of w' k = recalled_less t w w' (kept_rows h p) p.rows kept_few k

  -- where the limit is reached, stopping there is the search's walk of the node
  pub walked_stopped : (best : List Bool) (L : ℕ) (c : State) → L ≤ c.count → SharesWalked job shares course s t w w name name best best L p c (stopped_s c)
  walked_stopped best L c l =
      record { search = sym (limited_stop L (tree_at job shares course p s) s (view c best) l); frame = frame_of w (recalled_none t w p.rows a.memo); name_kept = refl; room = (refl, refl); lower = omega arith }

  abbrev sum : ℕ
  sum = sum_lanes lane_count_lem (λ (q : ℕ). lane t w suffix_base p.at q p.rows)

  fits : length (blocks_at job course s) ≤ length job.openings
  fits = omega (arith, nu.size, nu.inside)

  abbrev sum_is : ℕ → Type 0
  sum_is v = v ≡ sum_lanes lane_count_lem (λ (q : ℕ). lane t w suffix_base (length (blocks_at job course s)) q p.rows)

  sum_is_lem : sum_is sum
  sum_is_lem = ap (λ (k : ℕ). sum_lanes lane_count_lem (λ (q : ℕ). lane t w suffix_base k q p.rows)) (sym nu.size)

  -- the lift of the node's level
  abbrev lift : ℕ
  lift = get_or lifts p.at 0

  -- the node's estimate from the sources, without its lift
  abbrev from_sources : Bound
  from_sources = estimate_from job shares course.level course.sources (blocks_at job course s)

  bound_here : course_bound job shares course s ≡ add from_sources (Sum lift)
  bound_here =
      let z : level_from job course.level s ≡ p.at = omega (arith, nu.size, length-append (replicate course.level []) (blocks h (length job.openings - course.level) s), length-replicate {A = List Bool} course.level []) in
      ap (λ (k : ℕ). add from_sources (Sum k)) (ap course.lift z ∙ sym (a.lift p.at nu.inside))

  bound_is : bound_at (tree_at job shares course p s) ≡ add from_sources (Sum lift)
  bound_is = left_bound (course_bound job shares course) 0 h (h - p.next) (length job.openings - p.at) s ∙ bound_here

  -- a node whose sum is not below the known cost is counted and dropped, as the search does
  pub walked_dropped : (w' : List ℕ) (best : List Bool) (L e : ℕ) (c : State) → Recalled t w w' p.rows → e ≡ p.spent + sum + lift → c.count < L → c.cost ≤ inf → c.cost ≤ e → SharesWalked job shares course s t w w' name name best best L p c (counted_s c)
  walked_dropped w' best L e c k z l i d =
      record {
        search = sym (limited_drop L (tree_at job shares course p s) s (view c best) l (ap (λ (b : Bound). below b (plan c.cost (take c.size best))) bound_is
            ∙ test_drops job shares course t w (blocks_at job course s) p.rows nu.lanes_are nu.idle nu.tables a.rows fits p.spent lift c.cost (take c.size best) nu.spent i (omega (arith, z, sum_is_lem, d))));
        frame = frame_of w' k;
        name_kept = refl;
        room = (refl, refl);
        lower = omega arith;
      }

  -- ---- a node that is not dropped

  module _ (e L : ℕ) (c : State) (best : List Bool) (z : e ≡ p.spent + sum + lift) (l : c.count < L) (i : c.cost ≤ inf) (d : e < c.cost) where
    opens : (add from_sources (Sum lift) ≡ Sum (p.spent + sum_lanes lane_count_lem (λ (q : ℕ). lane t w suffix_base (length (blocks_at job course s)) q p.rows) + lift)) × (below (add from_sources (Sum lift)) (plan c.cost (take c.size best)) ≡ true)
    opens = test_opens job shares course t w (blocks_at job course s) p.rows nu.lanes_are nu.idle nu.tables a.rows fits p.spent lift c.cost (take c.size best) nu.spent i (omega (arith, z, sum_is_lem, d))

    on : limited L (tree_at job shares course p s) s (view c best) ≡ onward L (tree_at job shares course p s) s (counted (view c best))
    on = limited_on L (tree_at job shares course p s) s (view c best) l (ap (λ (b : Bound). below b (plan c.cost (take c.size best))) bound_is ∙ opens.1)

    -- a full node below the known cost is counted and kept with its name, as the search does
    pub walked_full : (w' : List ℕ) (best' : List Bool) → Recalled t w w' p.rows → p.next ≡ h → p.at ≡ length job.openings → take p.size best' ≡ take p.size name → length best' ≡ length best → SharesWalked job shares course s t w w' name name best best' L p c (kept_s (counted_s c) e p.size)
    walked_full w' best' k o f g q =
        let y : h - p.next ≡ 0 = omega (arith, o) in
        let v : length job.openings - p.at ≡ 0 = omega (arith, f) in
        let u : p.spent + sum_lanes lane_count_lem (λ (q : ℕ). lane t w suffix_base (length (blocks_at job course s)) q p.rows) + lift ≡ e = omega (arith, z, sum_is_lem) in
        record {
          search = sym (on
              ∙ ap₂ (λ (k m : ℕ). onward L (left_at (course_bound job shares course) h k m s) s (counted (view c best))) y v
              ∙ on_full (course_bound job shares course) L h s (counted (view c best))
              ∙ ap (λ (b : Bound). with_best b s (counted (view c best))) (bound_here ∙ opens.0 ∙ ap Sum u)
              ∙ (λ j. record { count = c.count + 1; over = c.over; incumbent = plan e ((sym (g ∙ a.name_is)) j) }));
          frame = frame_of w' k;
          name_kept = refl;
          room = (refl, q);
          lower = omega arith;
        }

    -- both nodes below: what the first leaves
    module _ (m : p.next ≡ h → p.at < length job.openings) (no : Node) (w₁ w₂ w₃ : List ℕ) (n₁ b₁ : List Bool) (r₁ : State)
        (k : Recalled t w w₁ p.rows) (bn : Below job shares course s t x w₁ w₂ p false no) (wn : SharesWalked job shares course (snoc s false) t w₂ w₃ (set name p.size false) n₁ best b₁ L no (counted_s c) r₁) where
      no_size : no.size ≡ p.size + 1
      no_size = omega (arith, bn.numbers.named, nu.named, length-append s (false ∷ []))

      roomy : p.size < length name
      roomy = omega (arith, a.room, name_room m)

      -- after the walk of the first node below, the name's beginning is still the node's
      first_name : take p.size n₁ ≡ s
      first_name = name_less name n₁ s p.size no.size false (wn.name_kept ∙ name_more name s p.size no.size false a.name_is roomy no_size) no_size nu.named

      -- the walk of the first node below leaves the name's buffer as long as before
      first_long_lem2 : length n₁ ≡ length name
      first_long_lem2 = wn.room.0 ∙ length-set name p.size false

      -- the walk of the first node below keeps the node's rows and their memo
      first_kept : Recalled t w₁ w₃ (kept_rows h p)
      first_kept = recalled_then t w₁ w₂ w₃ (kept_rows h p) (kept_rows h no) bn.kept_more bn.frame.kept wn.frame

      -- all three, of the walk of the first node below
      pub first_leaves : (take p.size n₁ ≡ s) × (length n₁ ≡ length name) × Recalled t w₁ w₃ (kept_rows h p)
      first_leaves = (first_name, first_long_lem2, first_kept)

      -- and what both do
      module _ (yes : Node) (w₄ w₅ : List ℕ) (n₂ b₂ : List Bool) (r₂ : State)
          (by : Below job shares course s t x w₃ w₄ p true yes) (wy : SharesWalked job shares course (snoc s true) t w₄ w₅ (set n₁ p.size true) n₂ b₁ b₂ L yes r₁ r₂) where
        yes-size : yes.size ≡ p.size + 1
        yes-size = omega (arith, by.numbers.named, nu.named, length-append s (true ∷ []))

        second_name : take p.size n₂ ≡ s
        second_name = name_less n₁ n₂ s p.size yes.size true (wy.name_kept ∙ name_more n₁ s p.size yes.size true first_name (omega (arith, first_long_lem2, roomy)) yes-size) yes-size nu.named

        frames : Recalled t w w₅ (kept_rows h p)
        frames =
            let f₁ = frame_of w₁ k in
            let f₃ = recalled_then t w w₁ w₃ (kept_rows h p) (kept_rows h p) (omega arith) f₁.kept first_kept in
            let f₄ = recalled_then t w w₃ w₄ (kept_rows h p) (kept_rows h p) (omega arith) f₃.kept by.frame in
            recalled_then t w w₄ w₅ (kept_rows h p) (kept_rows h yes) by.kept_more f₄.kept wy.frame

        -- the walks of both nodes below, one after the other, are the search's walk of the node
        pub walked_both : SharesWalked job shares course s t w w₅ name n₂ best b₂ L p c r₂
        walked_both =
            record {
              search = wy.search
                  ∙ ap₂ (λ (tr : Tree) (st : Limited). limited L tr (snoc s true) st) by.tree (wn.search ∙ ap (λ (tr : Tree). limited L tr (snoc s false) (counted (view c best))) bn.tree)
                  ∙ sym (on ∙ both_below job shares course p s L (counted (view c best)) nu.next m);
              frame = frames;
              name_kept = second_name ∙ sym a.name_is;
              room = (wy.room.0 ∙ length-set n₁ p.size true ∙ first_long_lem2, wy.room.1 ∙ wn.room.1);
              lower = omega (arith, wn.lower, wy.lower);
            }

-- what is given below, with the name in the buffer
pub at_below : (job : Job) (shares : Shares) (course : Course) (s : List Bool) (t x lifts w w' : List ℕ) (name : List Bool) (p r : Node) (b : Bool) → ((k : ℕ) → k ≤ length job.openings → get_or lifts k 0 ≡ course.lift k) → Below job shares course s t x w w' p b r → take r.size name ≡ snoc s b → length name ≡ name_size → At job shares course (snoc s b) t x lifts w' name r
at_below job shares course s t x lifts w w' name p r b f z e l = record { numbers = z.numbers; lift = f; name_is = e; room = l; rows = z.rows; memo = z.memo; opening = z.opening; stop = z.stop }

-- what the nodes below are made from stays, where the rows are kept
pub above_kept : (job : Job) (shares : Shares) (course : Course) (s : List Bool) (t x w w' row : List ℕ) (p : Node) → Above job shares course s t x w row p → Recalled t w w' (kept_rows (inner job) p) → Above job shares course s t x w' row p
above_kept job shares course s t x w w' row p a k =
    record {
      numbers = a.numbers;
      opening = λ o.
          let v = a.opening o in
          let j = subst (Recalled t w w') (kept_open (inner job) p o) k in
          record { level = v.level; rows = stacked_kept job shares course (blocks_at job course s) w w' p.rows v.rows j.kept; memo = j.memo };
      stop = λ l.
          let v = a.stop l in
          let j = subst (Recalled t w w') (kept_stop (inner job) p l) k in
          record { at_stop = v.at_stop; row = top_kept job shares course (blocks_at job course v.at_stop.before) v.at_stop.rs w w' (p.rows - 1) (λ (q : ℕ). get_or row q 0) v.row j.kept; memo = j.memo };
    }

-- a walk from the rows that a look leaves is one from those before it
pub walked_looked : (job : Job) (shares : Shares) (course : Course) (s : List Bool) (t w w' w'' : List ℕ) (name name' best best' : List Bool) (limit : ℕ) (p : Node) (a r : State) → kept_rows (inner job) p ≤ p.rows → Recalled t w w' p.rows → SharesWalked job shares course s t w' w'' name name' best best' limit p a r
    → SharesWalked job shares course s t w w'' name name' best best' limit p a r
walked_looked job shares course s t w w' w'' name name' best best' limit p a r l k h =
    let f = recalled_less t w w' (kept_rows (inner job) p) p.rows l k in
    record {
      search = h.search;
      frame = recalled_then t w w' w'' (kept_rows (inner job) p) (kept_rows (inner job) p) (omega arith) f.kept h.frame;
      name_kept = h.name_kept;
      room = h.room;
      lower = h.lower;
    }
