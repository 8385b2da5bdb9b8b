-- The nodes below an opening: no stop, and a stop. What is given of each, its fees, removals and term, and the search of both.
use Prim.Native.Nat.{ℕ, suc, ◌+◌, ◌-◌, ◌*◌, ◌/◌, ◌<◌, ◌≤◌}
use mathlib.Core.Path.{◌≡◌, refl, sym, ap, ap₂, subst, ◌∙◌}
use mathlib.Core.Bool.{Bool, true, false, cond, not, false≢true}
use mathlib.Core.List.{List, [], ◌∷◌, ◌++◌}
use native.Mathlib.Omega.{arith}
use borrow.Author.Tests.{lt-ltb}
use lib.ListN.{length, get_or, length-append}
use Rattle.branch.specs.declared.Bound.{Bound}
use Rattle.branch.specs.declared.Bound.TheVariants.{Sum}
use Rattle.branch.specs.Lower.{add}
use Rattle.branch.specs.Search.{none, plan, Limited, with_best, limited, onward}
use Rattle.branch.specs.Questions.{left_at}
use Rattle.branch.proofs.Bounds.{sum_inj}
use Rattle.branch.proofs.Steps.{left_bound, on_full, on_opening}
use Rattle.model.specs.Decisions.{concat}
use Rattle.model.specs.LastYes.{last_yes}
use Rattle.model.proofs.Blocks.{accessible_none}
use Rattle.model.proofs.LastYes.{last_no}
use Rattle.base.specs.Filled.{FilledBy}
use Rattle.model.specs.Limits.{most_openings}
use Rattle.lane_rows.specs.Layout.{lane_count_lem, top, inf, suffix_base, fee_place, lanes_in}
use Rattle.lane_rows.specs.Tables.{sum_where}
use Rattle.lane_rows.specs.Rows.{lane, sum_lanes, Looks}
use Rattle.held_rows.specs.Held.{HeldSheet, plain, no_lane, needs_of_lem, seen, held, paid_in, held_sums, held_term, held_bound}
use Rattle.held_rows.specs.Rows.{SeenRows}
use Rattle.held_rows.proofs.Seen.{paid_no, paid_yes, seen_no}
use Rattle.held_rows.proofs.Sums.{sums_yes}
use Rattle.held_rows.proofs.Numbers.{here_sums, no_rises}
use Rattle.held_rows.proofs.Rows.{rows_no}
use Rattle.held_lanes.specs.Places.{offset, most_to, top_place, classes_place, removed_place, best_place, ready_place}
use Rattle.held_lanes.specs.Tables.{TermAsks, term_of}
use Rattle.held_lanes.proofs.Sets.{bit_zero}
use Rattle.held_lanes.proofs.Coded.{no_coded, yes_coded}
use Rattle.held_stops.proofs.Children.{Told, no_told}
use Rattle.held_stops.proofs.Names.{no_joined, stop_joined, opening_bound, no_bound, stop_bound_lem}
use Rattle.search_state.specs.declared.Search.{Search}
use Rattle.search_state.specs.State.{bits, no_cost, kept_s}
use Rattle.search_state.proofs.States.{mask_next}
use Rattle.held_nodes.specs.declared.Node.{Node}
use Rattle.held_nodes.specs.State.{blocks_of, removals_in, best_in, view, no_n, yes_n, written, tree_at, sees_at, Written, At, HeldWalked}
use Rattle.held_nodes.proofs.Blocks.{blocks_same, blocks_no, written_whole}
use Rattle.held_nodes.proofs.Frames.{keep_frame}
use Rattle.search_state.proofs.Trees.{DueAt, due_there, due_where}
use Rattle.held_nodes.proofs.Given.{coded_there, term_there, term_asks, looks_at}

-- the blocks of the two
abbrev pub no_blocks_lem : List (List Bool) → List (List Bool)
no_blocks_lem ds = ds ++ ((false ∷ []) ∷ [])

-- the blocks with a stop at the next opening, none of whose removals is decided yet
abbrev pub yes_blocks : List (List Bool) → List (List Bool)
yes_blocks ds = ds ++ ((true ∷ []) ∷ [])

module _ {sheet : HeldSheet} {ds : List (List Bool)} {t u w v : List ℕ} {p : Node} {x g : ℕ} (a : At sheet ds t u w v p x g) (o : p.owed ≡ false) where
  abbrev wr : Written sheet ds t w v p.rows p.at p.mask
  wr = (a.opening o).all

  size : length ds ≡ p.at
  size = wr.size

  -- ---- a full node

  -- at a full node the bound is what is spent and the part sums, without a term
  pub full_bound : p.at ≡ length sheet.positions → held_bound sheet (concat ds) ≡ Sum (p.spent + x)
  full_bound e =
      let z : paid_in sheet ds + x + g ≡ p.spent + x = omega (arith, a.spent, a.cheap, e) in
      opening_bound sheet p.at ds (written_whole wr) a.inside ∙ (λ i. add (add (Sum (paid_in sheet ds)) (a.sums i)) (a.term i)) ∙ ap Sum z

  -- what is spent at a node and its part sums stay below the cost that stands for no plan
  pub full_fits : p.spent + x < no_cost
  full_fits = omega (arith, a.low, a.poor, a.inside, a.tables.few, (a.opening o).next, a.holders.parts)

  -- with its cost, stops and removals kept as the best, a full node makes the state that the search has after it
  pub full_kept : (v' : List ℕ) (L : ℕ) (s : Search) → p.at ≡ length sheet.positions → FilledBy best_place (λ (i : ℕ). get_or v (removed_place i) 0) most_openings v v'
      → view L sheet v' (kept_s s (p.spent + x) p.mask) ≡ onward L (tree_at sheet p ds) (concat ds) (view L sheet v s)
  full_kept v' L s e f =
      let h = held sheet in
      let n = length sheet.positions in
      let few = a.tables.few in
      let same : blocks_of h (best_in v') n p.mask ≡ ds = blocks_same h (best_in v') (removals_in v) n p.mask (λ i l. f.done i (omega arith)) ∙ ap (λ (k : ℕ). blocks_of h (removals_in v) k p.mask) (sym e) ∙ wr.blocks in
      let left : h - p.next ≡ 0 = omega (arith, (a.opening o).next) in
      let end : n - p.at ≡ 0 = omega (arith, e) in
      let st = view L sheet v s in
      (λ i. record { count = st.count; over = st.over; incumbent = cond (lt-ltb (p.spent + x) no_cost full_fits i) (plan (p.spent + x) (concat (same i))) none })
      ∙ ap (λ (b : Bound). with_best b (concat ds) st) (sym (full_bound e))
      ∙ sym (ap₂ (λ (k m : ℕ). onward L (left_at (held_bound sheet) h k m (concat ds)) (concat ds) st) left end ∙ on_full (held_bound sheet) L h (concat ds) st)

  -- a full node whose removals are kept as the incumbent's is walked, and nothing that was written moves
  pub full_walked : (v' : List ℕ) (L : ℕ) (s : Search) → p.at ≡ length sheet.positions → FilledBy best_place (λ (i : ℕ). get_or v (removed_place i) 0) most_openings v v' → HeldWalked sheet ds t w w v v' L p s (kept_s s (p.spent + x) p.mask)
  full_walked v' L s e f =
      record {
        search = full_kept v' L s e f;
        frame = keep_frame t w v v' p.rows (written p) (λ (i : ℕ). get_or v (removed_place i) 0) wr.memo (omega (arith, wr.rows_are.few, size, a.inside, a.tables.few)) (omega (arith, ap (λ (b : Bool). cond b (p.at - 1) p.at) o, a.inside, a.tables.few)) f;
        pending = λ q. absurd (false≢true (sym o ∙ q));
      }

  -- ---- the nodes below

  module _ (less : p.at < length sheet.positions) where
    few : length ds < length sheet.positions
    few = omega (arith, size)

    -- what is asked to look at it
    pub opening_asks : TermAsks u v (p.at + 1) (p.rows - 1) × Looks t w p.rows (p.at + 1) × (0 < p.rows)
    opening_asks = (
      term_asks a.tables a.holders wr (p.at + 1) (omega arith) (omega arith),
      looks_at a.tables a.holders wr (p.at + 1) (omega arith) (omega arith),
      wr.rows_are.some,
    )

    paid : length ds < length sheet.fees
    paid = omega (arith, few, a.tables.paid)

    -- the no's term and part sums
    module _ (h y : ℕ) (term : h ≡ most_to (term_of u v (p.at + 1) (p.rows - 1)) (get_or u classes_place 0)) (sum : y ≡ sum_lanes (lanes_in t) (λ (q : ℕ). lane t w suffix_base (p.at + 1) q p.rows)) where
      term_is : most_to (term_of u v (length ds + 1) (p.rows - 1)) (length sheet.needs) ≡ h
      term_is = sym (term ∙ ap₂ (λ (j k : ℕ). most_to (term_of u v (j + 1) (p.rows - 1)) k) (sym size) a.holders.classes)

      sum_is_lem : sum_lanes (lanes_in t) (λ (q : ℕ). lane t w suffix_base (length ds + 1) q p.rows) ≡ y
      sum_is_lem = sym (sum ∙ ap (λ (j : ℕ). sum_lanes (lanes_in t) (λ (q : ℕ). lane t w suffix_base (j + 1) q p.rows)) (sym size))

      -- the term by classes and the lanes' sum one level on tell the bound of the node without a stop
      pub no_below : Told sheet (no_blocks_lem ds) h y
      no_below =
          subst (Told sheet (no_blocks_lem ds) h) sum_is_lem
          (subst (λ (k : ℕ). Told sheet (no_blocks_lem ds) k (sum_lanes (lanes_in t) (λ (q : ℕ). lane t w suffix_base (length ds + 1) q p.rows))) term_is
          (no_told sheet a.fit t u v w a.tables a.holders ds p.rows (p.rows - 1) wr.lasts wr.rows_are x a.sums few))

      -- they are no less than the node's
      pub no_more : h < inf → x ≤ y
      no_more l =
          let e = here_sums sheet a.fit t w a.tables ds p.rows wr.rows_are (omega (arith, few)) g a.term in
          omega (arith, sum_inj (held_sums sheet ds) x (sum_lanes (lanes_in t) (λ (q : ℕ). lane t w suffix_base (length ds) q p.rows)) a.sums e, sum_is_lem, no_rises sheet a.fit t w a.tables ds p.rows wr.rows_are few)

      -- where the term of the node without a stop is there, it is at most the highest fee at each undecided opening
      pub no_cheap : h < inf → h ≤ top * (length sheet.positions - (p.at + 1))
      no_cheap l =
          let c = coded_there (top * (length sheet.positions - (length ds + 1))) (most_to (term_of u v (length ds + 1) (p.rows - 1)) (length sheet.needs)) (held_term sheet (no_blocks_lem ds)) h
          (no_coded sheet a.fit u v a.holders a.tables.few ds (p.rows - 1) wr.lasts x a.sums few) (no_below.term l) in
          omega (arith, c.1, size)

    no_paid : p.spent ≡ paid_in sheet (no_blocks_lem ds)
    no_paid = a.spent ∙ sym (paid_no sheet ds paid)

    -- its fees, removals and term
    pub no_due : (h y r : ℕ) → Told sheet (no_blocks_lem ds) h y → (h < inf → h ≤ top * (length sheet.positions - (p.at + 1))) → y ≤ lane_count_lem * inf → DueAt (tree_at sheet (no_n p r) (no_blocks_lem ds)) (sum_where h y) (p.spent + h)
    no_due h y r told cheap low =
        let b = left_bound (held_bound sheet) 0 (held sheet) (held sheet - p.next) (length sheet.positions - (p.at + 1)) (concat (no_blocks_lem ds)) ∙ ap (held_bound sheet) (sym (no_joined ds)) ∙ no_bound sheet p.at ds (written_whole wr) less in
        due_where (tree_at sheet (no_n p r) (no_blocks_lem ds)) (p.spent + h) h y
        (λ l. b ∙ told.none l)
        (λ l. b ∙ told.bound l ∙ ap Sum (omega (arith, no_paid)))
        (λ l. omega (arith, cheap l, low, a.poor, a.inside, a.tables.few, (a.opening o).next, a.holders.parts))

    -- all that the walk is given at the node without a stop, from its term and part sums
    pub at_no : (h y : ℕ) → Told sheet (no_blocks_lem ds) h y → h < inf → h ≤ top * (length sheet.positions - (p.at + 1)) → y ≤ lane_count_lem * inf → At sheet (no_blocks_lem ds) t u w v (no_n p p.rows) y h
    at_no h y told l cheap low =
        record {
          tables = a.tables;
          holders = a.holders;
          fit = a.fit;
          aside = a.aside;
          inside = omega arith;
          mask = omega (arith, mask_next p.at p.mask a.mask);
          spent = no_paid;
          poor = omega (arith, a.poor);
          sums = told.sums l;
          low = low;
          term = told.term l;
          cheap = cheap;
          pending = λ q. absurd (false≢true q);
          stop = λ q. absurd (false≢true q);
          opening = λ q. record {
            all = record {
              size = length-append ds ((false ∷ []) ∷ []) ∙ ap (λ (k : ℕ). k + 1) size;
              rows_are = subst (λ (k : ℕ). SeenRows (plain sheet) w k (sees_at sheet (no_blocks_lem ds)) p.rows) (sym (length-append ds ((false ∷ []) ∷ [])))
                  (subst (λ (f : ℕ → List Bool). SeenRows (plain sheet) w (length ds + 1) f p.rows) (λ i q. sym (seen_no (needs_of_lem sheet (get_or sheet.lanes q no_lane).class) ds) i)
                  (rows_no (plain sheet) t w (length ds) (sees_at sheet ds) p.rows a.tables wr.rows_are few));
              memo = wr.memo;
              lasts = λ c k. wr.lasts c k ∙ ap (λ (n : ℕ). offset n c) (sym (ap last_yes (seen_no (needs_of_lem sheet c) ds) ∙ last_no (seen (needs_of_lem sheet c) ds)));
              blocks = blocks_no (held sheet) (removals_in v) p.at p.mask ∙ ap no_blocks_lem wr.blocks;
            };
            next = (a.opening o).next;
          };
        }

    -- a stop's term
    yes_there : (k : ℕ) × (held_term sheet (yes_blocks ds) ≡ Sum k)
    yes_there = term_there sheet (yes_blocks ds) x a.fit (sums_yes sheet ds ∙ a.sums)

    module _ (k paying : ℕ) (top-is : k ≡ get_or u (top_place (p.at + 1)) 0) (cost : paying ≡ p.spent + get_or t (fee_place p.at) 0) where
      abbrev most : ℕ
      most = top * (length sheet.positions - (length ds + 1))

      yes_coded_at : (held_term sheet (yes_blocks ds) ≡ Sum k) × (k ≤ most)
      yes_coded_at =
          let z : get_or u (top_place (length ds + 1)) 0 ≡ k = ap (λ (j : ℕ). get_or u (top_place (j + 1)) 0) size ∙ sym top-is in
          let c = coded_there most (get_or u (top_place (length ds + 1)) 0) (held_term sheet (yes_blocks ds)) yes_there.0 (yes_coded sheet a.fit u v a.holders a.tables.few ds (p.rows - 1) wr.lasts x a.sums few) yes_there.1 in
          let y : yes_there.0 ≡ k = sym c.0 ∙ z in
          (yes_there.1 ∙ ap Sum y, omega (arith, c.1, y))

      yes_paid : paying ≡ paid_in sheet (yes_blocks ds)
      yes_paid = cost ∙ ap₂ (λ (m n : ℕ). m + n) a.spent (a.tables.fees p.at less ∙ ap (λ (j : ℕ). get_or sheet.fees j 0) (sym size)) ∙ sym (paid_yes sheet ds paid)

      yes_poor : paying ≤ top * ((p.at + 1) * (lane_count_lem + 1))
      yes_poor = omega (arith, cost, a.poor, a.tables.fees p.at less, a.tables.fair p.at, (a.opening o).next, a.holders.parts)

      -- what a stop's node has spent, its term and its part sums stay below the cost that stands for no plan
      pub yes_fits : paying + k + x < no_cost
      yes_fits = omega (arith, yes_poor, yes_coded_at.1, a.low, a.inside, a.tables.few)

      -- what is spent with the fee and the table's top term is what a stop's node owes beside its part sums
      pub yes_due : (r : ℕ) → DueAt (tree_at sheet (yes_n p r paying) (yes_blocks ds)) (Sum x) (paying + k)
      yes_due r =
          let z : paid_in sheet (yes_blocks ds) + x + k ≡ paying + k + x = omega (arith, yes_paid) in
          due_there (tree_at sheet (yes_n p r paying) (yes_blocks ds)) (paying + k) x
          (left_bound (held_bound sheet) 0 (held sheet) (held sheet - 0) (length sheet.positions - (p.at + 1)) (concat (yes_blocks ds)) ∙ ap (held_bound sheet) (sym (stop_joined ds [])) ∙ stop_bound_lem sheet p.at ds (written_whole wr) [] less (omega arith)
          ∙ (λ i. add (add (Sum (paid_in sheet (yes_blocks ds))) ((sums_yes sheet ds ∙ a.sums) i)) (yes_coded_at.0 i)) ∙ ap Sum z)
          yes_fits

      -- all that the walk is given at the node of a stop: part sums as before, its row still owed
      pub at_yes : get_or v (ready_place p.rows) 0 ≡ 0 → At sheet (yes_blocks ds) t u w v (yes_n p p.rows paying) x k
      unfolding bits
      at_yes fresh =
          let z : p.at + 1 - 1 ≡ p.at = omega arith in
          let y : (p.mask * 2 + 1) / 2 ≡ p.mask = omega arith in
          record {
            tables = a.tables;
            holders = a.holders;
            fit = a.fit;
            aside = a.aside;
            inside = omega arith;
            mask = mask_next p.at p.mask a.mask;
            spent = yes_paid;
            poor = omega (arith, yes_poor);
            sums = sums_yes sheet ds ∙ a.sums;
            low = a.low;
            term = yes_coded_at.0;
            cheap = omega (arith, yes_coded_at.1, size);
            pending = λ q ready. absurd (omega (arith, fresh, ready));
            stop = λ q. record {
              bs = ds;
              rs = [];
              same = refl;
              later = omega arith;
              before = subst (λ (j : ℕ). Written sheet ds t w v p.rows j ((p.mask * 2 + 1) / 2)) (sym z) (subst (Written sheet ds t w v p.rows p.at) (sym y) wr);
              price = x;
              there = a.sums;
              odd = omega arith;
              next = omega arith;
              removed = refl;
              small = omega arith;
              shut = λ i l. bit_zero i ∙ ap not (sym (accessible_none (needs_of_lem sheet (get_or sheet.lanes i no_lane).class)));
            };
            opening = λ q. absurd (false≢true (sym q));
          }

    -- the search of both
    pub both_openings : (L r paying : ℕ) (st : Limited) → onward L (tree_at sheet p ds) (concat ds) st
        ≡ limited L (tree_at sheet (yes_n p r paying) (yes_blocks ds)) (concat (yes_blocks ds)) (limited L (tree_at sheet (no_n p r) (no_blocks_lem ds)) (concat (no_blocks_lem ds)) st)
    both_openings L r paying st =
        let h = held sheet in
        let n = length sheet.positions - (p.at + 1) in
        let left : h - p.next ≡ 0 = omega (arith, (a.opening o).next) in
        let more : length sheet.positions - p.at ≡ suc n = omega arith in
        let all : h - 0 ≡ h = omega arith in
        let B = held_bound sheet in
        ap₂ (λ (k m : ℕ). onward L (left_at B h k m (concat ds)) (concat ds) st) left more
        ∙ on_opening B L h n (concat ds) st
        ∙ (λ i. limited L (left_at B h (sym all i) n (stop_joined ds [] i)) (stop_joined ds [] i) (limited L (left_at B h (sym left i) n (no_joined ds i)) (no_joined ds i) st))
