-- What a line's functions find: each node below from the laws of one line's walk (held_nodes), as a slot of the hall (hall_nodes).
use Prim.Native.Nat.{ℕ, ◌+◌, ◌-◌, ◌*◌, ◌^◌, ◌<◌, ◌≤◌, max}
use mathlib.Core.Path.{◌≡◌, refl, sym, ap, subst, ◌∙◌}
use mathlib.Core.Bool.{Bool, true, false, false≢true, true≢false}
use mathlib.Core.List.{List, []}
use Rattle.std.specs.Prelude.{Some, None}
use native.Mathlib.Omega.{arith}
use lib.Bits.{bit_or}
use lib.ListN.{length, get_or, set}
use lib.Seq.{get_or-set_same, get_or-set_other}
use Rattle.branch.specs.declared.Bound.{Bound}
use Rattle.branch.specs.declared.Bound.TheVariants.{Missing, Sum}
use Rattle.branch.specs.Search.{Tree, full, snoc}
use Rattle.branch.proofs.Bounds.{no_sum_lem, sum_inj}
use Rattle.branch.proofs.Steps.{bound_at, left_bound}
use Rattle.model.specs.Decisions.{concat}
use Rattle.lane_rows.specs.Layout.{lane_count_lem, inf, suffix_base, fee_place, lanes_in}
use Rattle.lane_rows.specs.Tables.{sum_where}
use Rattle.lane_rows.specs.Rows.{lane, sum_lanes, Looks, Recalled}
use Rattle.lane_rows.proofs.Lanes.{lane_most}
use Rattle.lane_rows.proofs.Memory.{recalled_none}
use Rattle.held_rows.specs.Held.{HeldSheet, held, held_bound}
use Rattle.held_lanes.specs.Places.{most_to, top_place, classes_place, need_lanes_place, need_count_place, need_class_place, removal_place, ready_place, best_place}
use Rattle.held_lanes.specs.Tables.{TermAsks, term_of}
use Rattle.held_stops.specs.Stops.{stop_lane, LooksAtStop, SettleAsks, StopPut, StopNoted}
use Rattle.held_stops.proofs.Names.{no_joined, stop_joined}
use Rattle.search_state.specs.declared.Search.{Search}
use Rattle.search_state.specs.State.{no_cost, open_s}
use Rattle.search_state.proofs.Trees.{DueAt, where_there, opened}
use Rattle.held_nodes.specs.State.{no_n, yes_n, stays_n, out_n, tree_at, At, Frame, NodeSettled}
use Rattle.held_nodes.proofs.Given.{sums_low, stop_most}
use Rattle.held_nodes.proofs.Frames.{at_kept}
use Rattle.held_nodes.proofs.Branches.{at_looked}
use Rattle.held_nodes.proofs.Openings.{opening_asks, no_below, no_more, no_cheap, no_due, yes_due}
use Rattle.held_nodes.proofs.Stops.{stop_asks, stays_below, stays_more, stays_cheap, stays_due, out_due}
use Rattle.held_nodes.proofs.Settling.{settle_asks, rests}
use Rattle.hall_nodes.specs.Lines.{Slot, Goes, SlotKept, with_rows, settled_slot, no_blocks_lem, yes_blocks, more_blocks, no_slot, stays_slot, out_slot}
use Rattle.hall_nodes.proofs.Going.{more_name, no_goes, yes_goes, stays_goes, out_goes, fresh_kept, looked_kept, settled_kept}
use Rattle.hall_lines.specs.declared.LineTables.{LineTables}
use Rattle.hall_lines.specs.declared.Level.{Level}
use Rattle.hall_lines.specs.declared.LineRows.{LineRows}
use Rattle.hall_lines.specs.declared.Stop.{Stop}
use Rattle.hall_lines.specs.declared.Decision.{Decision}
use Rattle.hall_lines.specs.Levels.{rows_in_lem, sums_in, term_in, mask_in, level_node, stop_node, LevelPut}
use Rattle.hall_lines.specs.Lines.{stays_s, out_s, looks, open_slot, stop_slot, Opening, Removing, Decided, OwnDue, Answers, itself, total_of, NoFound, StopFound, StayFound, OutFound, LineSettled, first_stop_lem, stop_due}
use Rattle.hall_lines.proofs.Levels.{levels_none, level_same, at_plain}

-- ---- a node below, tested

-- what one line's walk knows of its node below is what is asked of a line of the hall
own_due : {sheet : HeldSheet} {ds : List (List Bool)} {x : Bool} {e : Bound} {due : ℕ} (T : Tree) → bound_at T ≡ held_bound sheet (snoc (concat ds) x) → DueAt T e due → ((y : ℕ) → e ≡ Sum y → due + y ≤ 17648000000)
    → OwnDue sheet ds x e due
own_due T b d low = record { none = λ f. sym b ∙ d.none f; some = λ y f. sym b ∙ d.some y f; low = low }

-- the part sums of a node that is walked on are its own
pub open-sums : (limit due : ℕ) (e : Bound) (s : Search) (y : ℕ) → ((z : ℕ) → e ≡ Sum z → due + z < no_cost) → open_s limit due e s ≡ Sum y → e ≡ Sum y
open-sums limit due e s y fits f = go e refl
  where
    go : (b : Bound) → e ≡ b → e ≡ Sum y
    go Missing g = (opened {T = full Missing} (record { none = λ _. refl; some = λ z h. absurd (no_sum_lem e z g h); fits = λ z h. absurd (no_sum_lem e z g h) }) [] limit (λ _. []) s y f).sums
    go (Sum x) g = (opened {T = full (Sum (due + x))} (record { none = λ h. absurd (no_sum_lem e x h g); some = λ z h. ap (λ (k : ℕ). Sum (due + k)) (sum_inj e x z g h); fits = fits }) [] limit (λ _. []) s y f).sums

-- the code's answers: none, and the estimate with the part sums y
pub answers_none : {A : Type 0} (total : A → ℕ) (limit due : ℕ) (e : Bound) (s : Search) → open_s limit due e s ≡ Missing → Answers total limit due e s None
answers_none total limit due e s f = record { closed = λ _. f; opened = λ z g. cc }

-- a test that lets the node be walked on is answered by the hall's estimate
pub answers_some : {A : Type 0} (total : A → ℕ) (limit due : ℕ) (e : Bound) (s : Search) (y : ℕ) (q : A) → open_s limit due e s ≡ Sum y → total q ≡ due + y → Answers total limit due e s (Some q)
answers_some total limit due e s y q f g = record { closed = λ h. cc; opened = λ z h. let k : q ≡ z = cc in (y, f, sym (ap total k) ∙ g) }

-- a step from the line's node, where a look has changed the memo since
goes_looked : (x : Bool) (s s' : Slot) (w' : List ℕ) → Goes x s s' → s'.node.rows ≡ s.node.rows → Recalled s.t s.w w' s.node.rows → Goes x (with_rows s w' s.v) (with_rows s' w' s'.v)
unfolding at_looked
goes_looked x s s' w' g e k = record {
  sheet = g.sheet;
  name = g.name;
  given = at_looked g.given w' (subst (λ (r : ℕ). Recalled s'.t s'.w w' r) (sym e) (subst (λ (l : List ℕ). Recalled s'.t l w' s.node.rows) (sym g.w) (subst (λ (l : List ℕ). Recalled l s.w w' s.node.rows) (sym g.t) k)));
  t = g.t;
  w = refl;
  v = g.v;
  rows = g.rows;
  wrote = g.wrote;
  back = g.back;
}

-- ---- at an opening

module _ {sheet : HeldSheet} {ds : List (List Bool)} {tb : LineTables} {o : LineRows} {at paid : ℕ} (op : Opening sheet ds tb o at paid) where
  abbrev here : Slot
  here = open_slot sheet ds tb o at paid

  abbrev a : At sheet ds tb.t tb.u o.w o.v (level_node (held sheet) o.n at paid) (sums_in o.n at) (term_in o.n at)
  a = op.given

  -- where an opening is left, fewer than 64 are decided
  pub near : at < 64
  near = omega (arith, op.less, a.tables.few)

  pub opening_needs : TermAsks tb.u o.v (at + 1) (rows_in_lem o.n at - 1) × Looks tb.t o.w (rows_in_lem o.n at) (at + 1) × (0 < rows_in_lem o.n at)
  opening_needs = opening_asks a refl op.less

  -- the part sums of no stop
  abbrev pub no_sum : ℕ
  no_sum = sum_lanes (lanes_in tb.t) (λ (q : ℕ). lane tb.t o.w suffix_base (at + 1) q (rows_in_lem o.n at))

  -- the part sums of no stop are at most the number for Missing in every lane
  pub no_low : no_sum ≤ lane_count_lem * inf
  no_low = sums_low (λ (q : ℕ). lane tb.t o.w suffix_base (at + 1) q (rows_in_lem o.n at)) (lanes_in tb.t) no_sum a.tables.narrow (λ q. lane_most tb.t o.w suffix_base (at + 1) q (rows_in_lem o.n at)) refl

  module _ (h : ℕ) (term : h ≡ most_to (term_of tb.u o.v (at + 1) (rows_in_lem o.n at - 1)) (get_or tb.u classes_place 0)) where
    -- where the term is there, the part sums of no stop are no lower than the line's
    pub no_rises : h < inf → sums_in o.n at ≤ no_sum
    no_rises = no_more a refl op.less h no_sum term refl

    no_tree : DueAt (tree_at sheet (no_n (level_node (held sheet) o.n at paid) (rows_in_lem o.n at)) (no_blocks_lem ds)) (sum_where h no_sum) (paid + h)
    no_tree = no_due a refl op.less h no_sum (rows_in_lem o.n at) (no_below a refl op.less h no_sum term refl) (no_cheap a refl op.less h no_sum term refl) no_low

    no_own : OwnDue sheet ds false (sum_where h no_sum) (paid + h)
    no_own =
        own_due (tree_at sheet (no_n (level_node (held sheet) o.n at paid) (rows_in_lem o.n at)) (no_blocks_lem ds))
        (left_bound (held_bound sheet) 0 (held sheet) (held sheet - held sheet) (length sheet.positions - (at + 1)) (concat (no_blocks_lem ds)) ∙ ap (held_bound sheet) (sym (no_joined ds))) no_tree
        (λ y f. let z = where_there h no_sum y f in omega (arith, z.1, no_low, no_cheap a refl op.less h no_sum term refl z.0, a.poor, a.inside, a.tables.few, a.holders.parts))

    -- a node without a stop that is walked on has its term, and the part sums found are its own
    pub no_fits : (limit rest : ℕ) (s : Search) (y : ℕ) → rest + inf + lane_count_lem * inf + inf < 2 ^ 64 → open_s limit (rest + h) (sum_where h no_sum) s ≡ Sum y → (h < inf) × (no_sum ≡ y)
    no_fits limit rest s y roomy f = where_there h no_sum y (open-sums limit (rest + h) (sum_where h no_sum) s y (λ z g. let k = where_there h no_sum z g in omega (arith, roomy, k.0, k.1, no_low)) f)

    module _ (limit rest : ℕ) (s : Search) (w' : List ℕ) (rec : Recalled tb.t o.w w' (rows_in_lem o.n at)) where
      looked : SlotKept here (with_rows here w' o.v)
      looked = looked_kept here a w' rec

      -- what a line's no finds where the node below is not walked on
      pub no_none : open_s limit (rest + h) (sum_where h no_sum) s ≡ Missing → NoFound sheet ds tb o (looks o w') at paid limit rest s None
      no_none f = record {
        h = h;
        y = no_sum;
        aside = refl;
        due = no_own;
        answers = answers_none itself limit (rest + h) (sum_where h no_sum) s f;
        kept = looked;
        levels = levels_none o.n (at + 1);
        goes = λ z g. cc;
      }

      -- what a line's no finds where the node below is walked on: its numbers are the next level's
      pub no_some : (n' : List Level) (y total : ℕ) → h < inf → no_sum ≡ y → open_s limit (rest + h) (sum_where h no_sum) s ≡ Sum y → total ≡ rest + h + y → LevelPut o.n n' (at + 1) (record { rows = rows_in_lem o.n at; sums = y; term = h; mask = mask_in o.n at * 2 })
          → NoFound sheet ds tb o (record { w = w'; v = o.v; n = n' }) at paid limit rest s (Some total)
      no_some n' y total l e f g put =
          let same = level_same sheet ds tb o (record { w = w'; v = o.v; n = n' }) at paid put.kept in
          let step = goes_looked false here (no_slot here no_sum h) w' (no_goes here a refl op.less h no_sum term refl l no_low) refl rec in
          let kept-rows : rows_in_lem n' at ≡ rows_in_lem o.n at = ap (λ (l : Level). l.rows) (put.kept.below at (omega arith)) in
          let put-rows : rows_in_lem n' (at + 1) ≡ rows_in_lem o.n at = ap (λ (l : Level). l.rows) put.level_is in
          record {
            h = h;
            y = no_sum;
            aside = refl;
            due = no_own;
            answers = answers_some itself limit (rest + h) (sum_where h no_sum) s y total f g;
            kept = subst (SlotKept here) (sym same) looked;
            levels = put.kept;
            goes = λ z k. record {
              sheet = refl;
              name = step.name;
              given = at_plain step.given refl (rows_in_lem n' (at + 1)) (held sheet) (mask_in n' (at + 1)) (sums_in n' (at + 1)) (term_in n' (at + 1)) put-rows refl (ap (λ (l : Level). l.mask) put.level_is) (ap (λ (l : Level). l.sums) put.level_is ∙ sym e) (ap (λ (l : Level). l.term) put.level_is);
              t = refl;
              w = refl;
              v = refl;
              rows = omega (arith, put-rows, kept-rows);
              wrote = omega arith;
              back = λ _ _ _ q. absurd (false≢true q);
            };
          }

  -- ---- a stop

  abbrev fee : ℕ
  fee = get_or tb.t (fee_place at) 0

  abbrev most : ℕ
  most = get_or tb.u (top_place (at + 1)) 0

  abbrev o⁰ : LineRows
  o⁰ = record { w = o.w; v = set o.v (ready_place (rows_in_lem o.n at)) 0; n = o.n }

  abbrev v⁰ : List ℕ
  v⁰ = set o.v (ready_place (rows_in_lem o.n at)) 0

  -- the line has at most 64 rows where an opening is left
  pub few_rows : rows_in_lem o.n at ≤ 64
  few_rows = let wr = (a.opening refl).all in omega (arith, wr.rows_are.few, wr.size, op.less, a.tables.few)

  fresh : SlotKept here (with_rows here o.w v⁰)
  fresh = fresh_kept here a refl op.less

  fresh_given : At sheet ds tb.t tb.u o.w v⁰ (level_node (held sheet) o.n at paid) (sums_in o.n at) (term_in o.n at)
  unfolding at_kept
  fresh_given = at_kept fresh.frame fresh.pending a

  stops : Goes true (open_slot sheet ds tb o⁰ at paid) (stop_slot sheet (yes_blocks ds) tb o⁰ at (paid + fee) (first_stop_lem tb.u o.n at))
  stops =
      yes_goes (open_slot sheet ds tb o⁰ at paid) fresh_given refl op.less most (paid + fee) refl refl
      (get_or-set_same o.v (ready_place (rows_in_lem o.n at)) 0 0 (omega (arith, few_rows, a.aside)))

  -- a stop's estimate fits
  pub stop_cheap : paid + stop_due tb at + sums_in o.n at ≤ 17648000000
  stop_cheap = let g = stops.given in omega (arith, g.poor, g.cheap, g.low, g.inside, a.tables.few)

  stop_own : OwnDue sheet ds true (Sum (sums_in o.n at)) (paid + stop_due tb at)
  stop_own =
      let T = tree_at sheet (yes_n (level_node (held sheet) o.n at paid) (rows_in_lem o.n at) (paid + fee)) (yes_blocks ds) in
      let z : paid + fee + most ≡ paid + stop_due tb at = omega arith in
      own_due T (left_bound (held_bound sheet) 0 (held sheet) (held sheet - 0) (length sheet.positions - (at + 1)) (concat (yes_blocks ds)) ∙ ap (held_bound sheet) (sym (stop_joined ds [])))
      (subst (DueAt T (Sum (sums_in o.n at))) z (yes_due a refl op.less most (paid + fee) refl refl (rows_in_lem o.n at)))
      (λ y f. let k = sum_inj (Sum (sums_in o.n at)) (sums_in o.n at) y refl f in omega (arith, k, stop_cheap))

  module _ (limit rest : ℕ) (s : Search) where
    -- what a line's stop finds where the node below is not walked on
    pub stop_none : Answers itself limit (rest + stop_due tb at) (Sum (sums_in o.n at)) s None → StopFound sheet ds tb o o at paid limit rest s None
    stop_none f = record {
      rows = refl;
      levels = refl;
      due = stop_own;
      answers = f;
      kept = looked_kept here a o.w (recalled_none tb.t o.w (rows_in_lem o.n at) (a.opening refl).all.memo);
      best = λ i l. refl;
      goes = λ z g. cc;
    }

    -- what a line's stop finds where the node below is walked on
    pub stop_some : {total : ℕ} → Answers itself limit (rest + stop_due tb at) (Sum (sums_in o.n at)) s (Some total) → StopFound sheet ds tb o o⁰ at paid limit rest s (Some total)
    stop_some f = record {
      rows = refl;
      levels = refl;
      due = stop_own;
      answers = f;
      kept = fresh;
      best = λ i l. get_or-set_other o.v (ready_place (rows_in_lem o.n at)) (best_place i) 0 0 (λ z. omega (arith, z, few_rows, l, a.tables.few));
      goes = λ z k. stops;
    }

-- ---- at a stop

module _ {sheet : HeldSheet} {ds : List (List Bool)} {tb : LineTables} {o : LineRows} {at paid : ℕ} {p : Stop} (re : Removing sheet ds tb o at paid p) where
  abbrev at_stop : Slot
  at_stop = stop_slot sheet ds tb o at paid p

  abbrev b : At sheet ds tb.t tb.u o.w o.v (stop_node o.n at paid p) p.sums p.term
  b = re.given

  -- fewer than 16 removals are decided where one is open
  pub few_next : p.next < 16
  few_next = omega (arith, re.left, b.holders.parts)

  -- the terms and both levels of the stop's rows may be looked up
  pub stop_needs : TermAsks tb.u o.v (at + 1) (rows_in_lem o.n at - 1) × LooksAtStop tb.t tb.u o.w (rows_in_lem o.n at) (at + 1) × (0 < rows_in_lem o.n at)
  stop_needs = stop_asks b refl

  -- the lanes that it is shut to where the next holding part stays, and the part sums then
  abbrev pub stays_set : ℕ
  stays_set = bit_or p.shut (get_or tb.u (need_lanes_place p.next) 0)

  -- the part sums of the stop where the next holding part stays
  abbrev pub stays_sum : ℕ
  stays_sum = sum_lanes (lanes_in tb.t) (stop_lane tb.t o.w (at + 1) (rows_in_lem o.n at) stays_set)

  -- the part sums where the next holding part stays are at most the number for Missing in every lane
  pub stays_low : stays_sum ≤ lane_count_lem * inf
  stays_low = sums_low (stop_lane tb.t o.w (at + 1) (rows_in_lem o.n at) stays_set) (lanes_in tb.t) stays_sum b.tables.narrow (stop_most tb.t o.w (at + 1) (rows_in_lem o.n at) stays_set) refl

  abbrev before : List (List Bool)
  before = (b.stop refl).bs

  abbrev removed : List Bool
  removed = (b.stop refl).rs

  module _ (h : ℕ) (term : h ≡ max p.term (most_to (λ (i : ℕ). term_of tb.u o.v (at + 1) (rows_in_lem o.n at - 1) (get_or tb.u (need_class_place p.next i) 0)) (get_or tb.u (need_count_place p.next) 0))) where
    -- where the term is there, the part sums where the next holding part stays are no lower than the stop's
    pub stays_rises : h < inf → p.sums ≤ stays_sum
    stays_rises = stays_more b refl re.left stays_set h stays_sum refl term refl

    stays_own : OwnDue sheet ds false (sum_where h stays_sum) (paid + h)
    stays_own =
        own_due (tree_at sheet (stays_n (stop_node o.n at paid p) stays_set) (more_blocks before removed false))
        (left_bound (held_bound sheet) 0 (held sheet) (held sheet - (p.next + 1)) (length sheet.positions - (at + 1)) (concat (more_blocks before removed false)) ∙ ap (held_bound sheet) (more_name at_stop b refl re.left false))
        (stays_due b refl re.left stays_set h stays_sum (stays_below b refl re.left stays_set h stays_sum refl term refl) (stays_cheap b refl re.left stays_set h stays_sum refl term refl) stays_low)
        (λ y f. let z = where_there h stays_sum y f in omega (arith, z.1, stays_low, stays_cheap b refl re.left stays_set h stays_sum refl term refl z.0, b.poor, b.inside, b.tables.few, few_next))

    -- a node where the holding part stays that is walked on has its term, and the part sums found are its own
    pub stays_fits : (limit rest : ℕ) (s : Search) (y : ℕ) → rest + inf + lane_count_lem * inf + inf < 2 ^ 64 → open_s limit (rest + h) (sum_where h stays_sum) s ≡ Sum y → (h < inf) × (stays_sum ≡ y)
    stays_fits limit rest s y roomy f =
        where_there h stays_sum y (open-sums limit (rest + h) (sum_where h stays_sum) s y (λ z g. let k = where_there h stays_sum z g in omega (arith, roomy, k.0, k.1, stays_low)) f)

    module _ (limit rest : ℕ) (s : Search) (w' : List ℕ) (rec : Recalled tb.t o.w w' (rows_in_lem o.n at)) where
      stop_looked : SlotKept at_stop (with_rows at_stop w' o.v)
      stop_looked = looked_kept at_stop b w' rec

      -- what is found where the next holding part stays and the node below is not walked on
      pub stays_none : open_s limit (rest + h) (sum_where h stays_sum) s ≡ Missing → StayFound sheet ds tb o (looks o w') at paid p limit rest s None
      stays_none f = record {
        h = h;
        y = stays_sum;
        aside = refl;
        levels = refl;
        due = stays_own;
        answers = answers_none total_of limit (rest + h) (sum_where h stays_sum) s f;
        kept = stop_looked;
        goes = λ q g. cc;
      }

      -- what is found where the next holding part stays and the node below is walked on
      pub stays_some : (set y total : ℕ) (stop : Stop) → set ≡ stays_set → stop ≡ stays_s p set y h → h < inf → stays_sum ≡ y → open_s limit (rest + h) (sum_where h stays_sum) s ≡ Sum y → total ≡ rest + h + y
          → StayFound sheet ds tb o (looks o w') at paid p limit rest s (Some (record { stop = stop; total = total }))
      stays_some set y total stop k n l e f g =
          let more = more_blocks before removed false in
          let step = goes_looked false at_stop (stays_slot at_stop before removed stays_set stays_sum h) w' (stays_goes at_stop b refl re.left stays_set h stays_sum refl term refl l stays_low) refl rec in
          let is = n ∙ (λ i. stays_s p (k i) (sym e i) h) in
          record {
            h = h;
            y = stays_sum;
            aside = refl;
            levels = refl;
            due = stays_own;
            answers = answers_some total_of limit (rest + h) (sum_where h stays_sum) s y (record { stop = stop; total = total }) f g;
            kept = stop_looked;
            goes = λ q z.
                let at_q : record { stop = stop; total = total } ≡ q = cc in
                subst (λ (q : Decision). (q.stop.next ≡ p.next + 1) × ((ds' : List (List Bool)) × Goes false (stop_slot sheet ds tb (looks o w') at paid p) (stop_slot sheet ds' tb (looks o w') at paid q.stop))) at_q
                (ap (λ (q : Stop). q.next) n, (more, subst (λ (q : Stop). Goes false (stop_slot sheet ds tb (looks o w') at paid p) (stop_slot sheet more tb (looks o w') at paid q)) (sym is) step));
          }

  -- ---- removed

  abbrev price : ℕ
  price = get_or tb.u (removal_place p.next) 0

  outs : Goes true at_stop (out_slot at_stop before removed (paid + price))
  outs = out_goes at_stop b refl re.left (paid + price) refl

  -- a line's estimate with the next holding part removed is at most the most that it can be
  pub out_cheap : paid + (price + p.term) + p.sums ≤ 17648000000
  out_cheap = let g = outs.given in omega (arith, g.poor, g.cheap, g.low, g.inside, b.tables.few, few_next)

  out_own : OwnDue sheet ds true (Sum p.sums) (paid + (price + p.term))
  out_own =
      let T = tree_at sheet (out_n (stop_node o.n at paid p) (paid + price)) (more_blocks before removed true) in
      let z : paid + price + p.term ≡ paid + (price + p.term) = omega arith in
      own_due T
      (left_bound (held_bound sheet) 0 (held sheet) (held sheet - (p.next + 1)) (length sheet.positions - (at + 1)) (concat (more_blocks before removed true)) ∙ ap (held_bound sheet) (more_name at_stop b refl re.left true))
      (subst (DueAt T (Sum p.sums)) z (out_due b refl re.left (paid + price) refl))
      (λ y f. let k = sum_inj (Sum p.sums) p.sums y refl f in omega (arith, k, out_cheap))

  module _ (limit rest : ℕ) (s : Search) where
    -- what is found where the next holding part is removed and the node below is not walked on
    pub out_none : Answers itself limit (rest + (price + p.term)) (Sum p.sums) s None → OutFound sheet ds tb o at paid p limit rest s None
    out_none f = record {
      due = out_own;
      answers = answers_none total_of limit (rest + (price + p.term)) (Sum p.sums) s (f.closed refl);
      goes = λ q g. cc;
    }

    -- what is found where the next holding part is removed and the node below is walked on
    pub out_some : {total : ℕ} {stop : Stop} → stop ≡ out_s p → Answers itself limit (rest + (price + p.term)) (Sum p.sums) s (Some total) → OutFound sheet ds tb o at paid p limit rest s (Some (record { stop = stop; total = total }))
    out_some {total} {stop} n f =
        let is = f.opened total refl in
        record {
          due = out_own;
          answers = answers_some total_of limit (rest + (price + p.term)) (Sum p.sums) s is.0 (record { stop = stop; total = total }) is.1 is.2;
          goes = λ q z.
              let at_q : record { stop = stop; total = total } ≡ q = cc in
              subst (λ (q : Decision). (q.stop.next ≡ p.next + 1) × ((ds' : List (List Bool)) × Goes true at_stop (stop_slot sheet ds' tb o at (paid + price) q.stop))) at_q
              (ap (λ (q : Stop). q.next) n, (more_blocks before removed true, subst (λ (q : Stop). Goes true at_stop (stop_slot sheet (more_blocks before removed true) tb o at (paid + price) q)) (sym n) outs));
        }

-- ---- a stop whose removals are decided

module _ {sheet : HeldSheet} {ds : List (List Bool)} {tb : LineTables} {o : LineRows} {at paid : ℕ} {p : Stop} (de : Decided sheet ds tb o at paid p) where
  abbrev d : At sheet ds tb.t tb.u o.w o.v (stop_node o.n at paid p) p.sums p.term
  d = de.given

  -- a stop whose removals are decided gives all that settling it asks, and its removals fit in 32 bits
  pub settle_needs : SettleAsks tb.t tb.u o.v o.w (at + 1) (rows_in_lem o.n at) × (p.removed < 2 ^ 32)
  settle_needs = settle_asks d (d.stop refl) d.pending refl

  -- at a stop to be settled fewer than 64 openings are decided before it
  pub settle_near : at < 64
  settle_near = omega (arith, d.inside, d.tables.few)

  -- with the stop's row, marks and level written the line is given at the next level, and the levels before are kept
  pub line_settled : (w' v' : List ℕ) (n' : List Level) → StopPut tb.t o.w w' (at + 1) (rows_in_lem o.n at) p.shut → StopNoted tb.t tb.u o.w o.v v' (at + 1) (rows_in_lem o.n at) p.shut p.removed
      → LevelPut o.n n' (at + 1) (record { rows = rows_in_lem o.n at + 1; sums = p.sums; term = p.term; mask = mask_in o.n at * 2 + 1 }) → LineSettled sheet ds tb o (record { w = w'; v = v'; n = n' }) at paid p
  line_settled w' v' n' put noted level =
      let r = rows_in_lem o.n at + 1 in
      let st : NodeSettled tb.t tb.u o.w w' o.v v' (stop_node o.n at paid p) r = record { no = λ q. absurd (true≢false q); yes = λ _. (refl, put, noted) } in
      let rest = rests d de.all st in
      let all : held sheet ≡ p.next = omega (arith, de.all, (d.stop refl).next) in
      record {
        given = at_plain rest.given refl (rows_in_lem n' (at + 1)) (held sheet) (mask_in n' (at + 1)) (sums_in n' (at + 1)) (term_in n' (at + 1)) (ap (λ (l : Level). l.rows) level.level_is) all (ap (λ (l : Level). l.mask) level.level_is) (ap (λ (l : Level). l.sums) level.level_is) (ap (λ (l : Level). l.term) level.level_is);
        levels = level.kept;
        best = rest.best;
        kept = λ s'' k.
            settled_kept (stop_slot sheet ds tb o at paid p) w' v' r rest (with_rows (settled_slot (stop_slot sheet ds tb o at paid p) w' v' r) s''.w s''.v)
            (record { same = refl; frame = subst (λ (j : ℕ). Frame tb.t w' s''.w v' s''.v j (at + 1)) (ap (λ (l : Level). l.rows) level.level_is) k.frame; pending = λ q. absurd (false≢true q) });
      }
