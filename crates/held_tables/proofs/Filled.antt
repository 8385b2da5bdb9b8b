-- The tables for holders, filled region by region, are those of the sheet: what comes later keeps what stands before it.
use Prim.Native.Nat.{ℕ, ◌+◌, ◌-◌, ◌*◌, ◌<◌, ◌≤◌}
use mathlib.Core.Path.{◌≡◌, sym, ap, subst, ◌∙◌}
use mathlib.Core.Bool.{Bool, cond}
use mathlib.Core.List.{List}
use native.Mathlib.Omega.{arith}
use lib.ListN.{length, get_or, set, length-set}
use lib.Seq.{get_or-set_same, get_or-set_other}
use lib.IntN.{ℤ}
use Rattle.base.specs.Filled.{Filled, FilledBy}
use Rattle.lane_rows.specs.Layout.{lane_count_lem, mark_count, top, block_size}
use Rattle.lane_rows.specs.Tables.{Coded}
use Rattle.lane_rows.proofs.Rising.{row_inside}
use Rattle.search_tables.specs.Arrays.{sheet_of}
use Rattle.held_rows.specs.Held.{HeldSheet, no_lane, class_fee, largest_to}
use Rattle.held_lanes.specs.Places.{bit_at, most_to, class_place, top_place, removal_place, need_lanes_place, need_count_place, need_class_place, mask_base, mask_place, lead_place, classes_place, holds_place, held_size}
use Rattle.held_lanes.specs.Tables.{needing, Masks, HeldTables}
use Rattle.held_lanes.proofs.Most.{most_same}
use Rattle.held_lanes.proofs.Coded.{coded_to}
use Rattle.part_classes.specs.declared.classes.Classes.{Classes}
use Rattle.part_classes.specs.Grouped.{grouping, Grouped, need_in}
use Rattle.held_tables.specs.Arrays.{HeldArrays}
use Rattle.held_tables.specs.Sheet.{lanes_of, held_sheet_of}
use Rattle.held_tables.specs.Fill.{Before, Terms, LaneSet, Listing, Lists, Needed, Closed}
use Rattle.held_tables.proofs.Lists.{listing_kept}
use Rattle.held_tables.proofs.Sheets.{classes_count, needing_is, lanes_count, class_small, lane_class}

-- the needs: removals, sets of lanes, lists of classes
pub needed : (nd : List Bool) (rm : List ℕ) (k : Classes) (u v w z : List ℕ) → length rm ≤ lane_count_lem → FilledBy removal_place (λ (b : ℕ). get_or rm b 0) (length rm) u v → Filled need_lanes_place (LaneSet nd k) (length rm) v w → Lists nd k (length rm) w z
    → Needed nd rm k u z
needed nd rm k u v w z few a b l =
    record {
      removals = λ x h. l.before.rest (removal_place x) (omega arith) ∙ b.rest (removal_place x) (λ y m e. omega (arith, e)) ∙ a.done x h;
      lanes = λ x h. subst (LaneSet nd k x) (sym (l.before.rest (need_lanes_place x) (omega arith))) (b.done x h);
      lists = l.lists;
      before = record {
        size = l.before.size ∙ b.size ∙ a.size;
        rest = λ x h. l.before.rest x (omega arith) ∙ b.rest x (λ y m e. omega (arith, e)) ∙ a.rest x (λ y m e. omega (arith, e));
      };
    }

-- the rest: masks, leads, numbers
pub closed : (k : Classes) (h : ℕ) (u v w z : List ℕ) → length u ≡ held_size → Masks v → Before mask_base u v → FilledBy lead_place (λ (c : ℕ). get_or k.leads c 0) k.count v w → z ≡ set (set w classes_place k.count) holds_place h
    → Closed k h u z
closed k h u v w z s m b f e =
    record {
      masks = λ x i l g. kept (mask_place x i) (omega arith) ∙ f.rest (mask_place x i) (λ y n r. omega (arith, r)) ∙ m x i l g;
      leads = λ c l. kept (lead_place c) (omega (arith, l, k.led.most)) ∙ f.done c l;
      classes = ap (λ (l : List ℕ). get_or l classes_place 0) e ∙ get_or-set_other (set w classes_place k.count) holds_place classes_place h 0 (λ r. omega (arith, r)) ∙ get_or-set_same w classes_place k.count 0 (omega (arith, long));
      holds = ap (λ (l : List ℕ). get_or l holds_place 0) e ∙ get_or-set_same (set w classes_place k.count) holds_place h 0 (omega (arith, long, length-set w classes_place k.count));
      before = record {
        size = ap length e ∙ length-set (set w classes_place k.count) holds_place h ∙ length-set w classes_place k.count ∙ f.size ∙ b.size;
        rest = λ x l. kept x (omega arith) ∙ f.rest x (λ y n r. omega (arith, r)) ∙ b.rest x l;
      };
    }
  where
    long : length w ≡ held_size
    long = f.size ∙ b.size ∙ s

    kept : (x : ℕ) → x < classes_place → get_or z x 0 ≡ get_or w x 0
    kept x l = ap (λ (l : List ℕ). get_or l x 0) e ∙ get_or-set_other (set w classes_place k.count) holds_place x h 0 (λ r. omega (arith, r)) ∙ get_or-set_other w classes_place x k.count 0 (λ r. omega (arith, r))

-- all together
module _ (e : ℤ) (ss : List ℤ) (fs ls rs ps : List ℕ) (nd : List Bool) (rm : List ℕ) (k : Classes) (ar : HeldArrays e ss fs ls rs ps rm) (g : Grouped nd (length rm) (length ls) (grouping k)) (u v w z : List ℕ)
    (te : Terms (sheet_of e ss fs ls rs ps) (lanes_of ss ls rs ps k.lanes) u (length ls))
    (to : FilledBy top_place (λ (j : ℕ). most_to (λ (c : ℕ). get_or u (class_place j j c) 0) k.count) (length ss + 1) u v) (ne : Needed nd rm k v w) (cl : Closed k (length rm) w z) where
  abbrev sheet : HeldSheet
  sheet = held_sheet_of e ss fs ls rs ps nd rm k

  count : length sheet.needs ≡ k.count
  count = classes_count e ss fs ls rs ps nd rm k ar g

  -- what the terms left, and the tops, and the needs
  terms_stay : (x : ℕ) → x < block_size → get_or z x 0 ≡ get_or u x 0
  terms_stay x l = cl.before.rest x (omega arith) ∙ ne.before.rest x (omega arith) ∙ to.rest x (λ y m r. omega (arith, r))

  tops_stay : (j : ℕ) → j ≤ length ss → get_or z (top_place j) 0 ≡ get_or v (top_place j) 0
  tops_stay j l = let few = ar.plain.few in cl.before.rest (top_place j) (omega arith) ∙ ne.before.rest (top_place j) (omega arith)

  needs_stay : (x : ℕ) → x < mask_base → get_or z x 0 ≡ get_or w x 0
  needs_stay = cl.before.rest

  term : (j i c : ℕ) → i ≤ j → j ≤ length ss → c < k.count → Coded (top * (length ss - j)) (get_or u (class_place j i c) 0) (class_fee sheet j i c)
  unfolding class_fee
  term j i c h l m = te.right j i c h l (omega (arith, m, k.led.most))

  lists : (b : ℕ) → b < length rm → Listing nd k b k.count (get_or z (need_count_place b) 0) z
  lists b h =
      let hold = ar.holding in
      let o = ne.lists b h in
      let most = k.led.most in
      subst (λ (n : ℕ). Listing nd k b k.count n z) (sym (needs_stay (need_count_place b) (omega arith)))
      (listing_kept nd k b k.count (get_or w (need_count_place b) 0) w z (λ i l. needs_stay (need_class_place b i) (omega (arith, l, o.few, most, hold, h))) o)

  -- with terms, tops, needs and masks filled in one after the other, the tables for holders are those of the sheet
  pub held_filled : HeldTables sheet z
  held_filled =
      record {
        size = cl.before.size ∙ ne.before.size ∙ to.size ∙ te.size;
        classes = cl.classes ∙ sym count;
        few = omega (arith, count, k.led.most);
        holds = cl.holds;
        parts = ar.holding;
        masks = cl.masks;
        terms = λ j i c h l m.
            let few = ar.plain.few in
            let n : c < k.count = omega (arith, m, count) in
            subst (λ (x : ℕ). Coded (top * (length ss - j)) x (class_fee sheet j i c)) (sym (terms_stay (class_place j i c) (omega (arith, row_inside j i mark_count h (omega arith), n, k.led.most)))) (term j i c h l n);
        tops = λ j l.
            let few = ar.plain.few in
            subst (λ (x : ℕ). Coded (top * (length ss - j)) x (largest_to (λ (c : ℕ). class_fee sheet j j c) (length sheet.needs))) (sym (tops_stay j l ∙ to.done j (omega arith)))
            (subst (λ (n : ℕ). Coded (top * (length ss - j)) (most_to (λ (c : ℕ). get_or u (class_place j j c) 0) k.count) (largest_to (λ (c : ℕ). class_fee sheet j j c) n)) (sym count)
            (coded_to (top * (length ss - j)) k.count (λ (c : ℕ). get_or u (class_place j j c) 0) (λ (c : ℕ). class_fee sheet j j c) (omega arith) (λ c m. term j j c (omega arith) l m)));
        small = λ x l. omega (arith, terms_stay x l, te.small x l);
        removals = λ b h. needs_stay (removal_place b) (omega (arith, h, ar.holding)) ∙ ne.removals b h;
        cheap = ar.removals;
        need_lanes = λ b q h l.
            let m : q < lane_count_lem = omega (arith, l, lanes_count e ss fs ls rs ps nd rm k ar g, ar.plain.lanes) in
            ap (bit_at q) (needs_stay (need_lanes_place b) (omega (arith, h, ar.holding)))
            ∙ (ne.lanes b h).lanes q m
            ∙ sym (ap (needing sheet b) (lane_class e ss fs ls rs ps nd rm k ar g q l) ∙ needing_is e ss fs ls rs ps nd rm k ar g b (get_or k.lanes q 0) h (class_small e ss fs ls rs ps nd rm k ar g q));
        need_small = λ b h. omega (arith, needs_stay (need_lanes_place b) (omega (arith, h, ar.holding)), (ne.lanes b h).small);
        need_list = λ b h f.
            (lists b h).most f
            ∙ most_same (λ (c : ℕ). cond (need_in nd k b c) (f c) 0) (λ (c : ℕ). cond (needing sheet b c) (f c) 0) k.count (λ c m. ap (λ (t : Bool). cond t (f c) 0) (sym (needing_is e ss fs ls rs ps nd rm k ar g b c h m)))
            ∙ ap (most_to (λ (c : ℕ). cond (needing sheet b c) (f c) 0)) (sym count);
        need_count = λ b h. omega (arith, (lists b h).few, k.led.most);
        need_class = λ b i h l. omega (arith, (lists b h).class i l, count);
        leads = λ c m.
            let n : c < k.count = omega (arith, m, count) in
            let lead : get_or k.leads c 0 < length sheet.lanes = omega (arith, g.lead c n, lanes_count e ss fs ls rs ps nd rm k ar g) in
            let is = cl.leads c n in
            (omega (arith, is, lead), ap (λ (q : ℕ). (get_or sheet.lanes q no_lane).class) is ∙ lane_class e ss fs ls rs ps nd rm k ar g (get_or k.leads c 0) lead ∙ g.own c n);
      }
