-- A lane over the rows of a node is what its part bears at least there, and the sum of the lanes tells the node's estimate: by the front, which the rows hold.
use Prim.Native.Nat.{ℕ, zero, suc, ◌+◌, ◌-◌, ◌*◌, ◌^◌, ◌≤◌, ◌<◌}
use mathlib.Core.Path.{◌≡◌, refl, sym, ap, ap₂, subst, ◌∙◌}
use mathlib.Core.Bool.{Bool, true, false, cond, not, ◌&&◌}
use mathlib.Core.List.{List, [], ◌∷◌, ◌++◌}
use mathlib.Core.Logic.{◌⊎◌, inl, inr}
use native.Mathlib.Omega.{arith}
use native.Mathlib.Numerals.{add-one}
use native.Mathlib.Decide.{ℕ_discrete}
use lib.Dec.{ltb}
use lib.ListN.{length, get_or, take, drop, length-append}
use lib.IntN.{ℤ, pos}
use borrow.Author.Tests.{lt-ltb, le-ltb, ltb-true, ltb-false}
use Rattle.branch.specs.declared.Bound.{Bound}
use Rattle.branch.specs.declared.Bound.TheVariants.{Missing, Sum}
use Rattle.branch.specs.Lower.{add}
use Rattle.branch.proofs.Bounds.{no_sum_lem}
use Rattle.branch.specs.Search.{plan, below, snoc}
use Rattle.model.specs.Model.{Job, within, positions, end, last_change_lem}
use Rattle.model.specs.Decisions.{Held, held_parts, accessible, allows, places_in}
use Rattle.model.specs.LowerBound.{Offer, plus, least_of_lem, offers}
use Rattle.model.proofs.Blocks.{accessible_none}
use Rattle.model.proofs.Lower.{plus_sum}
use Rattle.shares.specs.Shares.{Shares, things, takes, bears, charged_for, shared_prices}
use Rattle.shares.specs.Sources.{Source, least_from, rest_at, rest_free, sourced_parts, estimate_from}
use Rattle.shares.specs.Rows.{in_time_lem, rows_with, rows_over}
use Rattle.shares.proofs.Split.{place_is}
use Rattle.shares.proofs.Gap.{least_to, to_same, from_same, mid_offers}
use Rattle.shares.proofs.Free.{rest_same, rest_split}
use Rattle.shares.proofs.BlockRows.{rows_up, rows_are}
use Rattle.shares.proofs.Owed.{owes_no, owes_yes}
use Rattle.model.specs.LastYes.{mark_in}
use Rattle.lane_rows.specs.Layout.{lane_count_lem, block_size, dear, inf, suffix_base, reach_base, place, row_place, price_place, mark_place, stack_size}
use Rattle.lane_rows.specs.Sheet.{Column, Mark, reach, solid}
use Rattle.lane_rows.specs.Tables.{value_of}
use Rattle.lane_rows.specs.Rows.{lane, sum_from, sum_lanes, marks_in, Level, Kept, Put, Stack, Looks, Memo, Owing, next_row}
use Rattle.lane_rows.proofs.Front.{over}
use Rattle.lane_rows.proofs.Solid.{reach-solid, over-solid}
use Rattle.lane_rows.proofs.Lanes.{value_some, value_none, value_plus, value_sum, coded_most, cond_most, lane_most, marks_kept, marks_suc, level_more, ≠_lt}
use Rattle.held_rows.proofs.Seen.{accessible_removed, accessible_stays}
use Rattle.share_rows.specs.Places.{eased_of}
use Rattle.share_rows.specs.Tables.{no_held, lane_at, column_of, Lanes, SharedTables}
use Rattle.share_rows.specs.Stacked.{Course, Idle, marks_of, decided_from, rows_of, row_most, Stacked, pays, stop_bound, TopRow}
use Rattle.share_rows.proofs.Prices.{get_d_front, get_d_last, get_d_past, price_at, price_same}
use Rattle.share_rows.proofs.Over.{least_over, least_reach, over_marks, reach_marks, joined_rows}
use Rattle.model.proofs.Positions.{positions_size}

-- ---- a lane's number with a share less

ease : (v c s : ℕ) (r : Bound) → value_of v ≡ plus (c + s) r → value_of (eased_of v s) ≡ plus c r
ease v c s r e = go (ltb v inf) refl r e
  where
    go : (a : Bool) → ltb v inf ≡ a → (r : Bound) → cond a (Sum v) Missing ≡ plus (c + s) r → value_of (cond a (v - s) v) ≡ plus c r
    go true f Missing g = absurd (no_sum_lem (Sum v) v g refl)
    go true f (Sum y) g =
        let z : v ≡ c + s + y = cc in
        let d : v - s ≡ c + y = omega (arith, z) in
        value_some (v - s) (omega (arith, ltb-true v inf f)) ∙ ap Sum d
    go false f Missing g = value_none v (ltb-false v inf f)
    go false f (Sum y) g = absurd (no_sum_lem Missing (c + s + y) refl g)

eased_level : (b v s : ℕ) → Level b v → Level b (eased_of v s)
eased_level b v s l = go (ltb v inf) refl
  where
    go : (a : Bool) → ltb v inf ≡ a → Level b (cond a (v - s) v)
    go true f = record { some = λ g. omega (arith, l.some (ltb-true v inf f)); most = omega (arith, l.most) }
    go false f = l

module _ (job : Job) (shares : Shares) (course : Course) where
  abbrev part : ℕ → Held
  part q = lane_at course.held q

  abbrev column : ℕ → Column
  column q = column_of job shares [] q (part q)

  abbrev rows : List (List Bool) → ℕ → List Source
  rows bs q = rows_of job shares course bs q

  -- ---- rows

  -- an opening with the block b, behind the blocks bs, as the part of lane q sees it
  abbrev offer_of : List (List Bool) → List Bool → ℕ → Offer
  offer_of bs b q = record { position = get_or (positions job) (length bs) (pos 0); price = pays job shares q (part q) (length bs) b; allowed = allows (part q).needs b }

  -- one block more: the rows before, and what its opening adds
  rows_more : (bs : List (List Bool)) (b : List Bool) (q : ℕ) → course.level ≤ length bs → length bs < length job.openings → rows (bs ++ (b ∷ [])) q ≡ rows_with (pos (part q).part.life) (offer_of bs b q) (rows bs q)
  rows_more bs b q g h =
      let held = part q in
      let l = course.level in
      let k = length bs in
      let all = bs ++ (b ∷ []) in
      let life = pos held.part.life in
      let ss = positions job in
      let ns = shared_prices job shares q held all in
      let p = places_in held all in
      let src = course.sources q held in
      let z : length all ≡ suc k = length-append bs (b ∷ []) ∙ add-one k in
      let price : get_or ns k 0 ≡ pays job shares q held k b = price_at job shares q held all k h ∙ ap (pays job shares q held k) (get_d_last bs b) in
      let place : get_or p k true ≡ allows held.needs b = place_is held all k ∙ ap (allows held.needs) (get_d_last bs b) in
      let same : take (k - l) (drop l (offers ss ns p)) ≡ decided_from job shares course bs q =
      mid_offers l (k - l) ss ns (shared_prices job shares q held bs) p (places_in held bs)
      (λ j u. let e = get_d_front bs b j (omega arith) in (price_same job shares q held all bs j e, place_is held all j ∙ ap (allows held.needs) e ∙ sym (place_is held bs j))) in
      ap (λ (m : ℕ). rows_over life (take (m - l) (drop l (offers ss ns p))) src) z
      ∙ rows_up life ss ns p l k src g (omega (arith, positions_size job))
      ∙ (λ i. rows_with life (record { position = get_or ss k (pos 0); price = price i; allowed = place i }) (rows_over life (same i) src))

  -- ---- a lane

  module _ (t w : List ℕ) (bs : List (List Bool)) (n : ℕ) (ta : SharedTables job shares course.held t) (st : Stacked job shares course bs w n) where
    -- a lane over the rows of a node is the least that its part bears there, from its sources
    pub lane_value_lem2 : length bs ≤ length job.openings → (q : ℕ) → q < lane_count_lem → value_of (lane t w suffix_base (length bs) q n) ≡ least_from (rest_at job shares course.level bs q (part q)) (course.sources q (part q))
    lane_value_lem2 h q l =
        let k = length bs in
        let col = column q in
        let life = col.life in
        let ss = positions job in
        let fr = marks_in col.first ss w q n in
        let os = drop k (offers ss col.prices []) in
        let free = rest_free job shares k q (part q) in
        let ds = decided_from job shares course bs q in
        let src = course.sources q (part q) in
        least_over (end job) ss col t q (ta.lane q l) w k (row_most k) n (omega (arith, positions_size job)) (omega (arith, positions_size job, ta.few)) st.marks (λ i m. st.level i q m l)
        ∙ sym (over-solid life (end job) fr os)
        ∙ ap (λ (g : List Mark). over life (end job) g os) (st.fronts q l)
        ∙ over_marks life (end job) (rows bs q) os
        ∙ sym (rows_are life free ds src)
        ∙ sym (from_same (rest_at job shares course.level bs q (part q)) (λ (m : ℤ). least_to life free m ds)
        (λ m. rest_split job shares course.level k st.begun bs q (part q) m
        ∙ to_same life (rest_at job shares k bs q (part q)) free (rest_same job shares k bs [] (λ j u. get_d_past bs j u ∙ sym (get_d_past [] j (omega arith))) q (part q)) m ds) src)

    -- what a loop over the rows asks, where the numbers of a block of the tables with the rows' stay within 31 bits
    stack_in : (base : ℕ) → base + block_size ≤ length t → length bs ≤ length job.openings
        → ((k q : ℕ) → k < n → q < lane_count_lem → get_or w (row_place k q) 0 + get_or t (place base (length bs) (get_or w (mark_place k) 0) q) 0 < 2 ^ 31) → Stack lane_count_lem t w base (length bs) n
    stack_in base room h sums =
        record {
          some = omega arith;
          narrow = omega arith;
          table = room;
          size = st.size;
          near = omega (arith, ta.few);
          few = st.few;
          marks = st.marks;
          sums = sums;
        }

    -- what a look at the rows asks
    pub stack_at : length bs ≤ length job.openings → Stack lane_count_lem t w suffix_base (length bs) n
    stack_at h =
        stack_in suffix_base (omega (arith, ta.size)) h
        (λ k q l m.
        let i = get_or w (mark_place k) 0 in
        let col = column q in
        let ss = positions job in
        omega (
          arith,
          (st.level k q l m).most,
          coded_most (dear * (length ss - length bs)) (omega (arith, positions_size job, ta.few)) (get_or t (place suffix_base (length bs) i q) 0) (least_of_lem col.life (end job) (mark_in col.first ss i) (drop (length bs) (offers ss col.prices [])))
              ((ta.lane q m).suffix (length bs) i (st.marks k l) (omega (arith, positions_size job))),
        ))

    -- where the memo is right, the rows of a node may be looked at on its level
    pub looks_at : length bs ≤ length job.openings → Memo t w n → Looks t w n (length bs)
    looks_at h me = record { memo = me; stack = subst (λ (k : ℕ). Stack k t w suffix_base (length bs) n) (sym ta.wide) (stack_at h); size = ta.size; some = st.some }

    -- what the row of the next opening asks
    pub owing_at : length bs < length job.openings → Owing lane_count_lem t w (length bs) n
    owing_at h =
        record {
          stack =
              stack_in reach_base (omega (arith, ta.size)) (omega arith)
              (λ k q l m.
              let col = column q in
              omega (
                arith,
                (st.level k q l m).most,
                cond_most (within col.life (mark_in col.first (positions job) (get_or w (mark_place k) 0)) (get_or (positions job) (length bs) (pos 0))),
                (ta.lane q m).reach (length bs) (get_or w (mark_place k) 0) (st.marks k l) (omega (arith, positions_size job)),
              ));
          size = ta.size;
          near = omega (arith, ta.few);
          few = omega (arith, st.few, ta.few);
          cheap = λ q l. omega (arith, (ta.lane q l).price (length bs) (omega (arith, positions_size job)), (ta.lane q l).cheap (length bs));
        }

    -- ---- a no

    -- the rows of a node are those of the node after a no
    pub stacked_no : length bs < length job.openings → Stacked job shares course (bs ++ ((false ∷ []) ∷ [])) w n
    stacked_no h =
        let z : length (bs ++ ((false ∷ []) ∷ [])) ≡ length bs + 1 = length-append bs ((false ∷ []) ∷ []) in
        record {
          size = st.size;
          some = st.some;
          few = omega (arith, z, st.few);
          begun = omega (arith, z, st.begun);
          marks = λ k l. omega (arith, z, st.marks k l);
          level = λ k q l m. level_more (row_most (length bs)) (row_most (length (bs ++ ((false ∷ []) ∷ [])))) (get_or w (row_place k q) 0) (omega (arith, z)) (st.level k q l m);
          fronts = λ q l. st.fronts q l ∙ ap marks_of (sym (rows_more bs (false ∷ []) q st.begun h));
        }

    -- ---- a stop: its row before any of its things is decided, and with its fee paid

    module _ (h : length bs < length job.openings) where
      abbrev reached : ℕ → Bound
      reached q = least_from (in_time_lem (pos (part q).part.life) (get_or (positions job) (length bs) (pos 0))) (rows bs q)

      next_value : (q : ℕ) → q < lane_count_lem → (value_of (next_row t w (length bs) n q) ≡ plus (pays job shares q (part q) (length bs) []) (reached q)) × Level (row_most (length bs + 1)) (next_row t w (length bs) n q)
      next_value q l =
          let free = column q in
          let ss = positions job in
          let la = ta.lane q l in
          let x = lane t w reach_base (length bs) q n in
          let y = get_or t (price_place (length bs) q) 0 in
          let k : length bs < length ss = omega (arith, positions_size job) in
          let c = la.cheap (length bs) in
          let pr = la.price (length bs) k in
          let p = get_or ss (length bs) (pos 0) in
          let fr = marks_in free.first ss w q n in
          let r = least_reach (end job) ss free t q la w (length bs) (row_most (length bs)) n k st.marks (λ j g. st.level j q g l) in
          let v = value_plus x y (row_most (length bs)) dear (omega (arith, ta.few)) r.1 (λ g. omega (arith, c, pr)) in
          let price : y ≡ pays job shares q (part q) (length bs) [] = pr ∙ price_at job shares q (part q) [] (length bs) h in (
            v.0
                ∙ ap₂ add (r.0 ∙ sym (reach-solid free.life fr p) ∙ ap (λ (g : List Mark). reach free.life g p) (st.fronts q l) ∙ reach_marks free.life (rows bs q) p) (value_some y (omega (arith, c, pr)) ∙ ap Sum price)
                ∙ plus_sum (reached q) (pays job shares q (part q) (length bs) []),
            record { some = λ g. omega (arith, v.1 g); most = omega (arith, lane_most t w reach_base (length bs) q n, c, pr) },
          )

      -- the row of a new stop: reach and price with all shares, less the lane's share of the fee
      pub top_new : (f : ℕ → ℕ) → ((q : ℕ) → q < lane_count_lem → f q ≡ eased_of (next_row t w (length bs) n q) (bears shares q (length bs) (part q) 0)) → TopRow job shares course bs [] w n f
      top_new f e =
          record {
            below = st;
            cost = λ q l.
                let o = owes_yes job shares q (part q) (length bs) [] (omega arith) in
                let s = bears shares q (length bs) (part q) 0 in
                let p = pays job shares q (part q) (length bs) (true ∷ []) in
                let z : pays job shares q (part q) (length bs) [] ≡ p + s = omega (arith, o) in
                ap value_of (e q l)
                ∙ ease (next_row t w (length bs) n q) p s (reached q) ((next_value q l).0 ∙ ap (λ (k : ℕ). plus k (reached q)) z)
                ∙ sym (ap (λ (a : Bool). cond a (plus p (reached q)) Missing) (accessible_none (part q).needs));
            level = λ q l. subst (Level (row_most (length bs + 1))) (sym (e q l)) (eased_level (row_most (length bs + 1)) (next_row t w (length bs) n q) (bears shares q (length bs) (part q) 0) (next_value q l).1);
          }

  -- ---- a stop whose removals are decided one after the other

  module _ (bs : List (List Bool)) (rs : List Bool) (w : List ℕ) (n : ℕ) (f : ℕ → ℕ) (tr : TopRow job shares course bs rs w n f) where
    -- removed: the share of it is paid
    pub top_out : (g : ℕ → ℕ) → suc (length rs) < things job → ((q : ℕ) → q < lane_count_lem → g q ≡ eased_of (f q) (bears shares q (length bs) (part q) (suc (length rs)))) → TopRow job shares course bs (snoc rs true) w n g
    top_out g l e =
        record {
          below = tr.below;
          cost = λ q k. ap value_of (e q k) ∙ one q (accessible (part q).needs rs) (tr.cost q k) ∙ ap (λ (a : Bool). cond a (plus (pays job shares q (part q) (length bs) (true ∷ snoc rs true)) (from q)) Missing) (sym (accessible_removed (part q).needs rs));
          level = λ q k. subst (Level (row_most (length bs + 1))) (sym (e q k)) (eased_level (row_most (length bs + 1)) (f q) (bears shares q (length bs) (part q) (suc (length rs))) (tr.level q k));
        }
      where
        from : ℕ → Bound
        from q = least_from (in_time_lem (pos (part q).part.life) (get_or (positions job) (length bs) (pos 0))) (rows bs q)

        one : (q : ℕ) (a : Bool) → value_of (f q) ≡ cond a (plus (pays job shares q (part q) (length bs) (true ∷ rs)) (from q)) Missing
            → value_of (eased_of (f q) (bears shares q (length bs) (part q) (suc (length rs)))) ≡ cond a (plus (pays job shares q (part q) (length bs) (true ∷ snoc rs true)) (from q)) Missing
        one q true c =
            let o = owes_yes job shares q (part q) (length bs) (true ∷ rs) l in
            let z : pays job shares q (part q) (length bs) (true ∷ rs) ≡ pays job shares q (part q) (length bs) (true ∷ snoc rs true) + bears shares q (length bs) (part q) (suc (length rs)) = omega (arith, o) in
            ease (f q) (pays job shares q (part q) (length bs) (true ∷ snoc rs true)) (bears shares q (length bs) (part q) (suc (length rs))) (from q) (c ∙ ap (λ (k : ℕ). plus k (from q)) z)
        one q false c = ease (f q) 0 (bears shares q (length bs) (part q) (suc (length rs))) Missing c

    -- not removed: the stop is shut to the lanes that take it
    pub top_stays : (g : ℕ → ℕ) → ((q : ℕ) → q < lane_count_lem → g q ≡ cond (get_or (takes (part q)) (suc (length rs)) false) inf (f q)) → TopRow job shares course bs (snoc rs false) w n g
    top_stays g e =
        record {
          below = tr.below;
          cost = λ q k. ap value_of (e q k) ∙ one q (get_or (part q).needs (length rs) false) (tr.cost q k)
              ∙ ap₂ (λ (a : Bool) (c : ℕ). cond a (plus c (from q)) Missing) (sym (accessible_stays (part q).needs rs)) (ap (λ (o : ℕ). get_or (part q).part.prices (length bs) 0 + o) (sym (owes_no job shares q (part q) (length bs) (true ∷ rs))));
          level = λ q k. subst (Level (row_most (length bs + 1))) (sym (e q k)) (shut_level (get_or (part q).needs (length rs) false) (f q) (tr.level q k));
        }
      where
        from : ℕ → Bound
        from q = least_from (in_time_lem (pos (part q).part.life) (get_or (positions job) (length bs) (pos 0))) (rows bs q)

        one : (q : ℕ) (need : Bool) → value_of (f q) ≡ stop_bound job shares course bs rs q
            → value_of (cond need inf (f q)) ≡ cond (accessible (part q).needs rs && not need) (plus (pays job shares q (part q) (length bs) (true ∷ rs)) (from q)) Missing
        one q true c = value_none inf (omega arith) ∙ sym (go (accessible (part q).needs rs))
          where
            go : (a : Bool) → cond (a && false) (plus (pays job shares q (part q) (length bs) (true ∷ rs)) (from q)) Missing ≡ Missing
            go true = refl
            go false = refl
        one q false c = c ∙ go (accessible (part q).needs rs)
          where
            go : (a : Bool) → cond a (plus (pays job shares q (part q) (length bs) (true ∷ rs)) (from q)) Missing ≡ cond (a && true) (plus (pays job shares q (part q) (length bs) (true ∷ rs)) (from q)) Missing
            go true = refl
            go false = refl

        shut_level : (b : Bool) (v : ℕ) → Level (row_most (length bs + 1)) v → Level (row_most (length bs + 1)) (cond b inf v)
        shut_level true v l = record { some = λ g. absurd (omega arith); most = omega arith }
        shut_level false v l = l

    -- its row on the stack
    pub stacked_stop : (w' : List ℕ) → length bs < length job.openings → Put lane_count_lem f w w' n (length bs + 1) → Stacked job shares course (bs ++ ((true ∷ rs) ∷ [])) w' (n + 1)
    stacked_stop w' h u =
        let z : length (bs ++ ((true ∷ rs) ∷ [])) ≡ length bs + 1 = length-append bs ((true ∷ rs) ∷ []) in
        let st = tr.below in
        record {
          size = u.kept.size ∙ st.size;
          some = omega arith;
          few = omega (arith, z, st.few);
          begun = omega (arith, z, st.begun);
          marks = λ k l. mark_at_lem k (omega arith) (ℕ_discrete k n);
          level = λ k q l m. level_at k q (omega arith) m (ℕ_discrete k n);
          fronts = λ q l. fronts_at q l;
        }
      where
        long : length (bs ++ ((true ∷ rs) ∷ [])) ≡ length bs + 1
        long = length-append bs ((true ∷ rs) ∷ [])

        mark_at_lem : (k : ℕ) → k ≤ n → Dec (k ≡ n) → get_or w' (mark_place k) 0 ≤ length (bs ++ ((true ∷ rs) ∷ []))
        mark_at_lem k l (yes g) = rw g (omega (arith, u.mark, long))
        mark_at_lem k l (no g) = let z : k < n = ≠_lt k n g l in omega (arith, u.kept.marks k z, tr.below.marks k z, long)

        level_at : (k q : ℕ) → k ≤ n → q < lane_count_lem → Dec (k ≡ n) → Level (row_most (length (bs ++ ((true ∷ rs) ∷ [])))) (get_or w' (row_place k q) 0)
        level_at k q l m (yes g) = subst (λ (b : ℕ). Level (row_most b) (get_or w' (row_place k q) 0)) (sym long) (rw g (subst (Level (row_most (length bs + 1))) (sym (u.row q m)) (tr.level q m)))
        level_at k q l m (no g) =
            let z : k < n = ≠_lt k n g l in
            level_more (row_most (length bs)) (row_most (length (bs ++ ((true ∷ rs) ∷ [])))) (get_or w' (row_place k q) 0) (omega (arith, long))
            (subst (Level (row_most (length bs))) (sym (u.kept.rows (row_place k q) (omega arith))) (tr.below.level k q z m))

        fronts_at : (q : ℕ) → q < lane_count_lem → solid (marks_in (last_change_lem (part q).part) (positions job) w' q (n + 1)) ≡ marks_of (rows (bs ++ ((true ∷ rs) ∷ [])) q)
        fronts_at q l =
            let ss = positions job in
            let first = last_change_lem (part q).part in
            let life = pos (part q).part.life in
            ap solid
            (ap (marks_in first ss w' q) (add-one n)
            ∙ marks_suc first ss w' q n (get_or ss (length bs) (pos 0)) (stop_bound job shares course bs rs q) (marks_in first ss w q n)
            (ap (mark_in first ss) (u.mark ∙ add-one (length bs))) (ap value_of (u.row q l) ∙ tr.cost q l)
            (marks_kept first ss w w' q n n (omega arith) (omega arith) u.kept))
            ∙ joined_rows life (marks_in first ss w q n) (offer_of bs (true ∷ rs) q) (rows bs q) (tr.below.fronts q l)
            ∙ ap marks_of (sym (rows_more bs (true ∷ rs) q tr.below.begun h))

  -- ---- the first node

  -- rows that are the sources are those of the node where nothing is decided from the level on
  pub stacked_sources : (bs : List (List Bool)) (w : List ℕ) (n : ℕ) → length bs ≡ course.level → length w ≡ stack_size → 0 < n → n ≤ course.level + 1 → ((k : ℕ) → k < n → get_or w (mark_place k) 0 ≤ course.level)
      → ((k q : ℕ) → k < n → q < lane_count_lem → Level (row_most course.level) (get_or w (row_place k q) 0))
      → ((q : ℕ) → q < lane_count_lem → solid (marks_in (last_change_lem (part q).part) (positions job) w q n) ≡ marks_of (course.sources q (part q))) → Stacked job shares course bs w n
  unfolding rows_over
  stacked_sources bs w n e s o f m v g =
      record {
        size = s;
        some = o;
        few = omega (arith, e);
        begun = omega (arith, e);
        marks = λ k l. omega (arith, m k l, e);
        level = λ k q l i. level_more (row_most course.level) (row_most (length bs)) (get_or w (row_place k q) 0) (omega (arith, e)) (v k q l i);
        fronts = λ q l. g q l
            ∙ (let z : length bs - course.level ≡ 0 = omega (arith, e) in
            ap (λ (k : ℕ). marks_of (rows_over (pos (part q).part.life) (take k (drop course.level (offers (positions job) (shared_prices job shares q (part q) bs) (places_in (part q) bs)))) (course.sources q (part q)))) (sym z));
      }

  -- where its rows are kept, the stack still has those of the blocks
  pub stacked_kept : (bs : List (List Bool)) (w w' : List ℕ) (n : ℕ) → Stacked job shares course bs w n → Kept w w' n → Stacked job shares course bs w' n
  stacked_kept bs w w' n r k =
      record {
        size = k.size ∙ r.size;
        some = r.some;
        few = r.few;
        begun = r.begun;
        marks = λ i l. subst (λ (x : ℕ). x ≤ length bs) (sym (k.marks i l)) (r.marks i l);
        level = λ i q l g. subst (Level (row_most (length bs))) (sym (k.rows (row_place i q) (omega arith))) (r.level i q l g);
        fronts = λ q l. ap solid (marks_kept (last_change_lem (part q).part) (positions job) w w' q n n l (omega arith) k) ∙ r.fronts q l;
      }

  -- a stop's row above rows that are kept is still right
  pub top_kept : (bs : List (List Bool)) (rs : List Bool) (w w' : List ℕ) (n : ℕ) (f : ℕ → ℕ) → TopRow job shares course bs rs w n f → Kept w w' n → TopRow job shares course bs rs w' n f
  top_kept bs rs w w' n f r k = record { below = stacked_kept bs w w' n r.below k; cost = r.cost; level = r.level }

  -- ---- the sum of the lanes

  -- what is left to the part at place q from its sources, at least
  abbrev left_to : List (List Bool) → ℕ → Held → Bound
  left_to bs q held = least_from (rest_at job shares course.level bs q held) (course.sources q held)

  sum_split : (v : ℕ → ℕ) (q a b : ℕ) → sum_from v q (a + b) ≡ sum_from v q a + sum_from v (q + a) b
  unfolding sum_from
  sum_split v q zero b = let z : q + 0 ≡ q = omega arith in let y : 0 + b ≡ b = omega arith in rw (z, y) (omega arith)
  sum_split v q (suc a) b = let z : q + suc a ≡ suc q + a = omega arith in let y : suc a + b ≡ suc (a + b) = omega arith in rw (z, y) (omega (arith, sum_split v (suc q) a b))

  sum_none : (v : ℕ → ℕ) (q b : ℕ) → ((i : ℕ) → q ≤ i → i < q + b → v i ≡ 0) → sum_from v q b ≡ 0
  unfolding sum_from
  sum_none v q zero h = refl
  sum_none v q (suc b) h = omega (arith, h q (omega arith) (omega arith), sum_none v (suc q) b (λ i l m. h i (omega arith) (omega arith)))

  -- the parts' sum, and where it is missing a lane is
  parts_total : (v : ℕ → ℕ) (bs : List (List Bool)) (hs : List Held) (q : ℕ) → ((i : ℕ) → i < length hs → value_of (v (q + i)) ≡ left_to bs (q + i) (get_or hs i no_held))
      → (sourced_parts job shares course.level course.sources bs q hs ≡ Sum (sum_from v q (length hs))) ⊎ ((sourced_parts job shares course.level course.sources bs q hs ≡ Missing) × (inf ≤ sum_from v q (length hs)))
  unfolding sourced_parts sum_from
  parts_total v bs [] q h = inl refl
  parts_total v bs (held ∷ hs) q h =
      let z : q + 0 ≡ q = omega arith in
      go (ltb (v q) inf) refl (subst (λ (k : ℕ). value_of (v k) ≡ left_to bs k held) z (h 0 (omega arith)))
      (parts_total v bs hs (suc q) (λ i l. let y : q + suc i ≡ suc q + i = omega arith in subst (λ (k : ℕ). value_of (v k) ≡ left_to bs k (get_or hs i no_held)) y (h (suc i) (omega arith))))
    where
      rest : Bound
      rest = sourced_parts job shares course.level course.sources bs (suc q) hs

      go : (a : Bool) → ltb (v q) inf ≡ a → cond a (Sum (v q)) Missing ≡ left_to bs q held → (rest ≡ Sum (sum_from v (suc q) (length hs))) ⊎ ((rest ≡ Missing) × (inf ≤ sum_from v (suc q) (length hs)))
          → (add (left_to bs q held) rest ≡ Sum (v q + sum_from v (suc q) (length hs))) ⊎ ((add (left_to bs q held) rest ≡ Missing) × (inf ≤ v q + sum_from v (suc q) (length hs)))
      go true f e (inl r) = inl (ap₂ add (sym e) r)
      go true f e (inr r) = inr (ap₂ add (sym e) r.0, omega (arith, r.1))
      go false f e r = inr (ap (λ (x : Bound). add x rest) (sym e), omega (arith, ltb-false (v q) inf f))

  module _ (t w : List ℕ) (bs : List (List Bool)) (n : ℕ) (la : Lanes job shares course.held) (idle : Idle job shares course) (ta : SharedTables job shares course.held t) (st : Stacked job shares course bs w n) (h : length bs ≤ length job.openings) where
    abbrev lane_of : ℕ → ℕ
    lane_of q = lane t w suffix_base (length bs) q n

    abbrev parts : ℕ
    parts = length (held_parts job)

    spare_none : sum_from lane_of parts (lane_count_lem - parts) ≡ 0
    spare_none = sum_none lane_of parts (lane_count_lem - parts) (λ i l m.
        let k : i < lane_count_lem = omega (arith, la.few) in
        let e = lane_value_lem2 t w bs n ta st h i k ∙ idle i l k bs in
        omega (arith, (value_sum (lane_of i) 0 e).0))

    all_parts : sum_lanes lane_count_lem lane_of ≡ sum_from lane_of 0 parts
    all_parts =
        let z : lane_count_lem ≡ parts + (lane_count_lem - parts) = omega (arith, la.few) in
        let y : 0 + parts ≡ parts = omega arith in
        ap (sum_from lane_of 0) z ∙ sum_split lane_of 0 parts (lane_count_lem - parts) ∙ (let s : sum_from lane_of (0 + parts) (lane_count_lem - parts) ≡ 0 = ap (λ (k : ℕ). sum_from lane_of k (lane_count_lem - parts)) y ∙ spare_none in omega (arith, s))

    -- the node's estimate by the sum of the lanes, and what is charged: it is that sum, or missing and the sum is large
    pub told : (spent : ℕ) → spent ≡ charged_for job bs → (estimate_from job shares course.level course.sources bs ≡ Sum (spent + sum_lanes lane_count_lem lane_of)) ⊎ ((estimate_from job shares course.level course.sources bs ≡ Missing) × (inf ≤ sum_lanes lane_count_lem lane_of))
    unfolding estimate_from
    told spent e =
        go (parts_total lane_of bs (held_parts job) 0 (λ i l.
        let k : i < lane_count_lem = omega (arith, la.few) in
        let z : i ≡ 0 + i = omega arith in
        subst (λ (j : ℕ). value_of (lane_of j) ≡ left_to bs j (get_or (held_parts job) i no_held)) z (lane_value_lem2 t w bs n ta st h i k ∙ ap (left_to bs i) (la.real i l))))
      where
        go : (sourced_parts job shares course.level course.sources bs 0 (held_parts job) ≡ Sum (sum_from lane_of 0 parts)) ⊎ ((sourced_parts job shares course.level course.sources bs 0 (held_parts job) ≡ Missing) × (inf ≤ sum_from lane_of 0 parts))
            → (add (Sum (charged_for job bs)) (sourced_parts job shares course.level course.sources bs 0 (held_parts job)) ≡ Sum (spent + sum_lanes lane_count_lem lane_of)) ⊎ ((add (Sum (charged_for job bs)) (sourced_parts job shares course.level course.sources bs 0 (held_parts job)) ≡ Missing) × (inf ≤ sum_lanes lane_count_lem lane_of))
        go (inl r) = inl (ap (add (Sum (charged_for job bs))) r ∙ ap Sum (omega (arith, e, all_parts)))
        go (inr r) = inr (ap (add (Sum (charged_for job bs))) r.0, omega (arith, r.1, all_parts))

    abbrev sum : ℕ
    sum = sum_lanes lane_count_lem lane_of

    abbrev bound : Bound
    bound = estimate_from job shares course.level course.sources bs

    -- so it is tested, with a lift, against a cost that is no larger than the number for Missing
    pub test_drops : (spent lift cost : ℕ) (s : List Bool) → spent ≡ charged_for job bs → cost ≤ inf → cost ≤ spent + sum + lift → below (add bound (Sum lift)) (plan cost s) ≡ false
    test_drops spent lift cost s e k l = go (told spent e)
      where
        go : (bound ≡ Sum (spent + sum)) ⊎ ((bound ≡ Missing) × (inf ≤ sum)) → below (add bound (Sum lift)) (plan cost s) ≡ false
        go (inl r) = ap (λ (x : Bound). below (add x (Sum lift)) (plan cost s)) r ∙ le-ltb (spent + sum + lift) cost l
        go (inr r) = ap (λ (x : Bound). below (add x (Sum lift)) (plan cost s)) r.0

    -- where what is spent, the lanes' sum and the lift are below the cost, they are the estimate with the lift, and the node is not dropped
    pub test_opens : (spent lift cost : ℕ) (s : List Bool) → spent ≡ charged_for job bs → cost ≤ inf → spent + sum + lift < cost → (add bound (Sum lift) ≡ Sum (spent + sum + lift)) × (below (add bound (Sum lift)) (plan cost s) ≡ true)
    test_opens spent lift cost s e k l = go (told spent e)
      where
        go : (bound ≡ Sum (spent + sum)) ⊎ ((bound ≡ Missing) × (inf ≤ sum)) → (add bound (Sum lift) ≡ Sum (spent + sum + lift)) × (below (add bound (Sum lift)) (plan cost s) ≡ true)
        go (inl r) = (ap (λ (x : Bound). add x (Sum lift)) r, ap (λ (x : Bound). below (add x (Sum lift)) (plan cost s)) r ∙ lt-ltb (spent + sum + lift) cost l)
        go (inr r) = absurd (omega (arith, r.1))
