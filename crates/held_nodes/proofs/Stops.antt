-- The nodes below a stop whose removals are not all decided: the next holding part is not removed, and it is. What is given of each, its fees, removals and term, and the search of both.
use Prim.Native.Nat.{ℕ, suc, ◌+◌, ◌-◌, ◌*◌, ◌^◌, ◌<◌, ◌≤◌, max}
use mathlib.Core.Path.{◌≡◌, refl, sym, ap, ap₂, subst, ◌∙◌}
use mathlib.Core.Bool.{Bool, true, false, not, false≢true}
use mathlib.Core.List.{List, [], ◌∷◌, ◌++◌}
use native.Mathlib.Omega.{arith}
use lib.Bits.{bit_or}
use lib.ListN.{length, get_or, length-append}
use Rattle.branch.specs.declared.Bound.TheVariants.{Sum}
use Rattle.branch.specs.Lower.{add}
use Rattle.branch.specs.Search.{snoc, Limited, limited, onward}
use Rattle.branch.specs.Questions.{left_at}
use Rattle.branch.proofs.Bounds.{sum_inj}
use Rattle.branch.proofs.Steps.{left_bound, on_decision}
use Rattle.model.specs.Decisions.{concat}
use Rattle.model.proofs.Blocks.{Wholes}
use Rattle.lane_rows.specs.Layout.{lane_count_lem, top, inf, lanes_in}
use Rattle.lane_rows.specs.Tables.{Coded, sum_where}
use Rattle.lane_rows.specs.Rows.{sum_lanes}
use Rattle.held_rows.specs.Held.{HeldSheet, no_lane, needs_of_lem, held, paid_in, held_sums, held_term, held_bound}
use Rattle.held_rows.proofs.Seen.{paid_removal, accessible_removed}
use Rattle.held_rows.proofs.Sums.{sums_removed, term_removed}
use Rattle.held_rows.proofs.Numbers.{stop_sums, stays_rises}
use Rattle.held_rows.proofs.Numbers as numbers
use Rattle.held_lanes.specs.Places.{most_to, bit_at, removal_place, need_lanes_place, need_count_place, need_class_place}
use Rattle.held_lanes.specs.Tables.{TermAsks, term_of}
use Rattle.held_lanes.proofs.Sets.{shut_more}
use Rattle.held_lanes.proofs.Coded.{stays_coded}
use Rattle.held_stops.specs.Stops.{ShutSet, stop_lane, LooksAtStop}
use Rattle.held_stops.proofs.Children.{bound_in, Told, stays_told}
use Rattle.held_stops.proofs.Names.{stop_more, stop_joined, stop_bound_lem}
use Rattle.search_state.specs.State.{bits, no_cost}
use Rattle.search_state.proofs.States.{bits-length, bits_no, bits_yes, mask_next}
use Rattle.held_nodes.specs.declared.Node.{Node}
use Rattle.held_nodes.specs.State.{stays_n, out_n, tree_at, StopAt, At}
use Rattle.held_nodes.proofs.Blocks.{written_whole}
use Rattle.search_state.proofs.Trees.{DueAt, due_there, due_where}
use Rattle.held_nodes.proofs.Given.{coded_there, term_asks, looks_stop}

-- the blocks of the two
abbrev pub more_blocks : List (List Bool) → List Bool → Bool → List (List Bool)
more_blocks bs rs b = bs ++ ((true ∷ snoc rs b) ∷ [])

module _ {sheet : HeldSheet} {ds : List (List Bool)} {t u w v : List ℕ} {p : Node} {x g : ℕ} (a : At sheet ds t u w v p x g) (o : p.owed ≡ true) where
  abbrev stop : StopAt sheet ds t w v p
  stop = a.stop o

  abbrev bs : List (List Bool)
  bs = stop.bs

  abbrev rs : List Bool
  rs = stop.rs

  abbrev here : List (List Bool)
  here = bs ++ ((true ∷ rs) ∷ [])

  size : length bs + 1 ≡ p.at
  size = omega (arith, stop.before.size, stop.later)

  asked : length rs ≡ p.next
  asked = sym (ap length stop.removed) ∙ bits-length p.next p.removed

  few : length bs < length sheet.positions
  few = omega (arith, size, a.inside)

  paid : length bs < length sheet.fees
  paid = omega (arith, few, a.tables.paid)

  sums_here : held_sums sheet here ≡ Sum x
  sums_here = subst (λ (ls : List (List Bool)). held_sums sheet ls ≡ Sum x) stop.same a.sums

  term_here : held_term sheet here ≡ Sum g
  term_here = subst (λ (ls : List (List Bool)). held_term sheet ls ≡ Sum g) stop.same a.term

  paid_here : p.spent ≡ paid_in sheet here
  paid_here = a.spent ∙ ap (paid_in sheet) stop.same

  abbrev most : ℕ
  most = top * (length sheet.positions - (length bs + 1))

  coded_here : Coded most g (held_term sheet here)
  coded_here = subst (Coded most g) (sym term_here) (refl, omega (arith, a.cheap, size))

  wholes : Wholes (held sheet) (length bs) bs
  wholes = subst (λ (k : ℕ). Wholes (held sheet) k bs) (sym stop.before.size) (written_whole stop.before)

  -- the name of a node below
  more_name : (b : Bool) → snoc (concat here) b ≡ concat (more_blocks bs rs b)
  more_name b = ap (λ (l : List Bool). snoc l b) (sym (stop_joined bs rs)) ∙ stop_more bs rs b ∙ stop_joined bs (snoc rs b)

  -- what is asked to look at it
  pub stop_asks : TermAsks u v p.at (p.rows - 1) × LooksAtStop t u w p.rows p.at × (0 < p.rows)
  stop_asks =
      let wr = stop.before in
      let z : p.at - 1 + 1 ≡ p.at = omega (arith, stop.later) in (
        term_asks a.tables a.holders wr p.at (omega arith) a.inside,
        subst (LooksAtStop t u w p.rows) z (looks_stop a.tables a.holders wr (omega (arith, few, wr.size))),
        wr.rows_are.some,
      )

  module _ (next : p.next < held sheet) where
    open-rs : length rs < held sheet
    open-rs = omega (arith, asked)

    more_rs : (b : Bool) → length (snoc rs b) ≤ held sheet
    more_rs b = simp length-append (omega (arith, open-rs))

    more_bound : (b : Bool) → held_bound sheet (concat (more_blocks bs rs b)) ≡ bound_in sheet (more_blocks bs rs b)
    more_bound b = ap (held_bound sheet) (sym (stop_joined bs (snoc rs b))) ∙ stop_bound_lem sheet (length bs) bs wholes (snoc rs b) few (more_rs b)

    -- ---- not removed

    module _ (set h y : ℕ) (lanes : set ≡ bit_or p.shut (get_or u (need_lanes_place p.next) 0))
        (term : h ≡ max g (most_to (λ (i : ℕ). term_of u v p.at (p.rows - 1) (get_or u (need_class_place p.next i) 0)) (get_or u (need_count_place p.next) 0)))
        (sum : y ≡ sum_lanes (lanes_in t) (stop_lane t w p.at p.rows set)) where
      -- the lanes shut so far and those that need the next holding part are the lanes shut where it stays
      pub stays_shut : ShutSet sheet (snoc rs false) set
      stays_shut q l =
          let needs = needs_of_lem sheet (get_or sheet.lanes q no_lane).class in
          ap (bit_at q) lanes
          ∙ shut_more needs rs q p.shut (get_or u (need_lanes_place p.next) 0) (stop.shut q l) (a.holders.need_lanes p.next q next l ∙ ap (λ (k : ℕ). get_or needs k false) (sym asked))

      term_is : max g (most_to (λ (i : ℕ). term_of u v (length bs + 1) (p.rows - 1) (get_or u (need_class_place (length rs) i) 0)) (get_or u (need_count_place (length rs)) 0)) ≡ h
      term_is = sym (term ∙ ap₂ (λ (j b : ℕ). max g (most_to (λ (i : ℕ). term_of u v j (p.rows - 1) (get_or u (need_class_place b i) 0)) (get_or u (need_count_place b) 0))) (sym size) (sym asked))

      sum_is_lem : sum_lanes (lanes_in t) (stop_lane t w (length bs + 1) p.rows set) ≡ y
      sum_is_lem = sym (sum ∙ ap (λ (j : ℕ). sum_lanes (lanes_in t) (stop_lane t w j p.rows set)) (sym size))

      -- the term and the lanes' sum that are looked up tell the bound of the node where the holding part stays
      pub stays_below : Told sheet (more_blocks bs rs false) h y
      stays_below =
          subst (Told sheet (more_blocks bs rs false) h) sum_is_lem
          (subst (λ (k : ℕ). Told sheet (more_blocks bs rs false) k (sum_lanes (lanes_in t) (stop_lane t w (length bs + 1) p.rows set))) term_is
          (stays_told sheet a.fit t u v w a.tables a.holders bs p.rows (p.rows - 1) stop.before.lasts stop.before.rows_are stop.price stop.there few rs g open-rs coded_here set stays_shut))

      -- its part sums are no less than the node's
      pub stays_more : h < inf → x ≤ y
      stays_more l =
          let e = stop_sums sheet a.fit t w a.tables bs p.rows stop.before.rows_are few rs g term_here in
          let f = stop_sums sheet a.fit t w a.tables bs p.rows stop.before.rows_are few (snoc rs false) h (stays_below.term l) in
          let lane = numbers.stop_lane sheet a.fit t w a.tables bs p.rows stop.before.rows_are few in
          omega (
            arith,
            sum_inj (held_sums sheet here) x (sum_lanes (lanes_in t) (lane rs)) sums_here e,
            sum_inj (held_sums sheet (more_blocks bs rs false)) y (sum_lanes (lanes_in t) (lane (snoc rs false))) (stays_below.sums l) f,
            stays_rises sheet a.fit t w a.tables bs p.rows stop.before.rows_are few rs,
          )

      -- where the term is there, it is at most the highest fee at each undecided opening
      pub stays_cheap : h < inf → h ≤ top * (length sheet.positions - p.at)
      stays_cheap l =
          let c = coded_there most (max g (most_to (λ (i : ℕ). term_of u v (length bs + 1) (p.rows - 1) (get_or u (need_class_place (length rs) i) 0)) (get_or u (need_count_place (length rs)) 0))) (held_term sheet (more_blocks bs rs false)) h
          (stays_coded sheet a.fit u v a.holders a.tables.few bs (p.rows - 1) stop.before.lasts stop.price stop.there few rs g open-rs coded_here) (stays_below.term l) in
          omega (arith, c.1, size)

    stays_paid : p.spent ≡ paid_in sheet (more_blocks bs rs false)
    stays_paid = omega (arith, paid_here, paid_removal sheet bs paid rs false open-rs)

    -- what is spent and the term is what the node where the part stays owes beside its part sums
    pub stays_due : (set h y : ℕ) → Told sheet (more_blocks bs rs false) h y → (h < inf → h ≤ top * (length sheet.positions - p.at)) → y ≤ lane_count_lem * inf → DueAt (tree_at sheet (stays_n p set) (more_blocks bs rs false)) (sum_where h y) (p.spent + h)
    stays_due set h y told cheap low =
        let b = left_bound (held_bound sheet) 0 (held sheet) (held sheet - (p.next + 1)) (length sheet.positions - p.at) (concat (more_blocks bs rs false)) ∙ more_bound false in
        due_where (tree_at sheet (stays_n p set) (more_blocks bs rs false)) (p.spent + h) h y
        (λ l. b ∙ told.none l)
        (λ l. b ∙ told.bound l ∙ ap Sum (omega (arith, stays_paid)))
        (λ l. omega (arith, cheap l, low, a.poor, a.inside, a.tables.few, a.holders.parts))

    -- all that the walk is given where the next holding part is removed, or not, from what the node has spent, its part sums and its term, and from its removals and shut lanes
    at_next : (out : Bool) (set removed spent h y : ℕ) → spent ≡ paid_in sheet (more_blocks bs rs out) → spent ≤ top * (p.at * (lane_count_lem + 1) + (p.next + 1)) → held_sums sheet (more_blocks bs rs out) ≡ Sum y → y ≤ lane_count_lem * inf → held_term sheet (more_blocks bs rs out) ≡ Sum h → h ≤ top * (length sheet.positions - p.at)
        → bits (p.next + 1) removed ≡ snoc (bits p.next p.removed) out → removed < 2 ^ (p.next + 1) → ShutSet sheet (snoc rs out) set → At sheet (more_blocks bs rs out) t u w v (record { at = p.at; rows = p.rows; next = p.next + 1; owed = true; shut = set; removed = removed; spent = spent; mask = p.mask }) y h
    at_next out set removed spent h y due poor sums low term cheap decided small shut =
        record {
          tables = a.tables;
          holders = a.holders;
          fit = a.fit;
          aside = a.aside;
          inside = a.inside;
          mask = a.mask;
          spent = due;
          poor = poor;
          sums = sums;
          low = low;
          term = term;
          cheap = cheap;
          pending = λ q. a.pending o;
          stop = λ q. record {
            bs = bs;
            rs = snoc rs out;
            same = refl;
            later = stop.later;
            before = stop.before;
            price = stop.price;
            there = stop.there;
            odd = stop.odd;
            next = omega arith;
            removed = decided ∙ ap (λ (l : List Bool). snoc l out) stop.removed;
            small = small;
            shut = shut;
          };
          opening = λ q. absurd (false≢true (sym q));
        }

    -- all that the walk is given where the next holding part is not removed, from the shut lanes, term and part sums
    pub at_stays : (set h y : ℕ) → ShutSet sheet (snoc rs false) set → Told sheet (more_blocks bs rs false) h y → h < inf → h ≤ top * (length sheet.positions - p.at) → y ≤ lane_count_lem * inf → At sheet (more_blocks bs rs false) t u w v (stays_n p set) y h
    at_stays set h y shut told l cheap low =
        at_next false set (p.removed * 2) p.spent h y stays_paid (omega (arith, a.poor)) (told.sums l) low (told.term l) cheap (bits_no p.next p.removed) (omega (arith, mask_next p.next p.removed stop.small)) shut

    -- ---- removed

    module _ (paying : ℕ) (cost : paying ≡ p.spent + get_or u (removal_place p.next) 0) where
      out_paid : paying ≡ paid_in sheet (more_blocks bs rs true)
      out_paid =
          let z : get_or sheet.removals p.next 0 ≡ get_or sheet.removals (length rs) 0 = ap (λ (k : ℕ). get_or sheet.removals k 0) (sym asked) in
          omega (arith, cost, paid_here, a.holders.removals p.next next, z, paid_removal sheet bs paid rs true open-rs)

      out_poor : paying ≤ top * (p.at * (lane_count_lem + 1) + (p.next + 1))
      out_poor = omega (arith, cost, a.poor, a.holders.removals p.next next, a.holders.cheap p.next)

      -- what is spent with the removal, the term and the part sums stay below the cost that stands for no plan
      pub out_fits : paying + g + x < no_cost
      out_fits = omega (arith, out_poor, a.cheap, a.low, a.inside, a.tables.few, a.holders.parts)

      -- what is spent with the removal and the term as before is what the node owes beside its part sums
      pub out_due : DueAt (tree_at sheet (out_n p paying) (more_blocks bs rs true)) (Sum x) (paying + g)
      out_due =
          let z : paid_in sheet (more_blocks bs rs true) + x + g ≡ paying + g + x = omega (arith, out_paid) in
          due_there (tree_at sheet (out_n p paying) (more_blocks bs rs true)) (paying + g) x
          (left_bound (held_bound sheet) 0 (held sheet) (held sheet - (p.next + 1)) (length sheet.positions - p.at) (concat (more_blocks bs rs true)) ∙ more_bound true
          ∙ (λ i. add (add (Sum (paid_in sheet (more_blocks bs rs true))) ((sums_removed sheet bs rs ∙ sums_here) i)) ((term_removed sheet bs rs ∙ term_here) i)) ∙ ap Sum z)
          out_fits

      -- all that the walk is given where the next holding part is removed: term and part sums as before
      pub at_out : At sheet (more_blocks bs rs true) t u w v (out_n p paying) x g
      at_out =
          at_next true p.shut (p.removed * 2 + 1) paying g x out_paid out_poor (sums_removed sheet bs rs ∙ sums_here) a.low (term_removed sheet bs rs ∙ term_here) a.cheap (bits_yes p.next p.removed) (mask_next p.next p.removed stop.small)
          (λ i l. stop.shut i l ∙ ap not (sym (accessible_removed (needs_of_lem sheet (get_or sheet.lanes i no_lane).class) rs)))

    -- the search of both
    pub both_removals : (L set paying : ℕ) (st : Limited) → onward L (tree_at sheet p ds) (concat ds) st
        ≡ limited L (tree_at sheet (out_n p paying) (more_blocks bs rs true)) (concat (more_blocks bs rs true)) (limited L (tree_at sheet (stays_n p set) (more_blocks bs rs false)) (concat (more_blocks bs rs false)) st)
    both_removals L set paying st =
        let h = held sheet in
        let n = length sheet.positions - p.at in
        let k = h - (p.next + 1) in
        let more : h - p.next ≡ suc k = omega arith in
        let B = held_bound sheet in
        (λ i. onward L (left_at B h (more i) n (concat (stop.same i))) (concat (stop.same i)) st)
        ∙ on_decision B L h k n (concat here) st
        ∙ (λ i. limited L (left_at B h k n (more_name true i)) (more_name true i) (limited L (left_at B h k n (more_name false i)) (more_name false i) st))
