-- The sheet of the arrays: what a class needs, that it is classed, and that it is the job's.
use Prim.Native.Nat.{ℕ, ◌+◌, ◌*◌, ◌<◌, ◌≤◌}
use mathlib.Core.Path.{◌≡◌, refl, sym, ap, subst, ◌∙◌}
use mathlib.Core.Bool.{Bool, false}
use mathlib.Core.List.{List, []}
use native.Mathlib.Omega.{arith}
use native.Mathlib.Decide.{dec_lt}
use lib.ListN.{length, get_or, take, drop, length-map, get_or-map}
use lib.Seq.{get_or-take, get_or-drop, length-take-le}
use lib.IntN.{ℤ, pos, ◌-ℤ◌}
use Rattle.model.specs.Model.{Job}
use Rattle.model.specs.Decisions.{Held, held_at}
use Rattle.model.specs.LastYes.{Climbs}
use Rattle.model.specs.Verdict.{part_at}
use Rattle.base.proofs.Bools.{there}
use Rattle.lane_rows.specs.Layout.{lanes_in}
use Rattle.lane_rows.specs.Sheet.{Column, no_column}
use Rattle.lane_rows.specs.Tables.{Alike, Tables}
use Rattle.held_places.specs.Arrays.{price_stride}
use Rattle.search_tables.specs.Arrays.{lane_value_lem, fours_of_lem, sheet_of}
use Rattle.search_tables.proofs.Filling.{past, own_each}
use Rattle.held_places.specs.Arrays.{need_stride, needs_at, Lanes, HeldJobArrays}
use Rattle.held_rows.specs.Held.{HeldColumn, HeldSheet, column_in, plain, no_lane, needs_of_lem, Classed, Laid, Fills, SheetOf}
use Rattle.held_lanes.specs.Tables.{needing}
use Rattle.part_classes.specs.declared.classes.Classes.{Classes}
use Rattle.part_classes.specs.Grouped.{grouping, Grouped, need_in}
use Rattle.held_tables.specs.declared.numbers.HeldNumbers.{HeldNumbers}
use Rattle.held_tables.specs.Arrays.{HeldArrays}
use Rattle.held_tables.specs.Sheet.{held_sheet_of}
use Rattle.held_tables.proofs.Lanes.{lane_at, lanes_length, lanes_at, columns_are}

-- the arrays that the code's numbers are
pub arrays_of : (n : HeldNumbers) → HeldArrays n.job.end n.job.positions.now n.job.fees.now n.job.lives.now n.job.lefts.now n.job.prices.now n.removals.now
arrays_of n = record { plain = n.job.arrays; holding = n.few; removals = n.cheap }

-- the arrays are such as one part's sums ask for
pub lanes_are : {e : ℤ} {ss : List ℤ} {fs ls rs ps rm : List ℕ} → HeldArrays e ss fs ls rs ps rm → Lanes e ss ls rs ps (length rm)
lanes_are ar =
    let p = ar.plain in
    record {
      timed = record { few = p.few; near = p.near; late = p.late };
      lives = record { lefts = p.lives.lefts; brief = p.lives.brief; begun = p.lives.begun };
      parts = p.lanes;
      prices = p.prices;
      holding = ar.holding;
    }

module _ (e : ℤ) (ss : List ℤ) (fs ls rs ps : List ℕ) (nd : List Bool) (rm : List ℕ) (k : Classes) (ar : HeldArrays e ss fs ls rs ps rm) (g : Grouped nd (length rm) (length ls) (grouping k)) where
  abbrev sheet : HeldSheet
  sheet = held_sheet_of e ss fs ls rs ps nd rm k

  -- the sheet without its holders is that of the arrays for openings alone
  pub plain_is : plain sheet ≡ sheet_of e ss fs ls rs ps
  plain_is = ap (λ (cs : List Column). record { end = e; positions = ss; fees = fs; parts = length ls; columns = cs }) (columns_are (length ss) ls rs ps k.lanes 0 (fours_of_lem (length ls) * 4))

  -- ---- classes

  -- the sheet has the needs of as many classes as there are
  pub classes_count : length sheet.needs ≡ k.count
  classes_count = length-map (take k.count k.leads) (needs_at (length rm) nd) ∙ length-take-le k.count k.leads (omega (arith, k.led.room, k.led.most))

  -- a class needs the holding parts that its lead needs
  pub class_needs_lem : (c : ℕ) → c < k.count → needs_of_lem sheet c ≡ needs_at (length rm) nd (get_or k.leads c 0)
  class_needs_lem c l =
      there sheet.needs c [] (needs_at (length rm) nd 0) (omega (arith, classes_count))
      ∙ get_or-map (needs_at (length rm) nd) (take k.count k.leads) c 0
      ∙ ap (needs_at (length rm) nd) (get_or-take k.count k.leads c 0 l)

  -- a class of the sheet needs a holding part exactly where its lead does
  pub needing_is : (b c : ℕ) → b < length rm → c < k.count → needing sheet b c ≡ need_in nd k b c
  needing_is b c h l =
      ap (λ (xs : List Bool). get_or xs b false) (class_needs_lem c l)
      ∙ get_or-take (length rm) (drop (get_or k.leads c 0 * need_stride) nd) b false h
      ∙ get_or-drop (get_or k.leads c 0 * need_stride) nd b false

  -- ---- lanes

  -- the sheet has as many lanes as the fours that its parts fill
  pub lanes_count : length sheet.lanes ≡ fours_of_lem (length ls) * 4
  lanes_count = lanes_length (length ss) ls rs ps k.lanes 0 (fours_of_lem (length ls) * 4)

  -- lane q of the sheet is made of the arrays' numbers for part q and its class
  pub lane_is : (q : ℕ) → q < length sheet.lanes → get_or sheet.lanes q no_lane ≡ lane_at (length ss) ls rs ps k.lanes q
  lane_is q l = lanes_at (length ss) ls rs ps k.lanes (fours_of_lem (length ls) * 4) q (omega (arith, lanes_count))

  -- the class of each lane is one of those that there are
  pub class_small : (q : ℕ) → get_or k.lanes q 0 < k.count
  class_small q = go (dec_lt q (length ls))
    where
      go : Dec (q < length ls) → get_or k.lanes q 0 < k.count
      go (yes l) = g.class q l
      go (no l) = omega (arith, l, g.past q (omega (arith, l)), g.class 0 ar.plain.lives.some)

  -- a lane of the sheet has the class that the classes give it
  pub lane_class : (q : ℕ) → q < length sheet.lanes → (get_or sheet.lanes q no_lane).class ≡ get_or k.lanes q 0
  lane_class q l = ap (λ (x : HeldColumn). x.class) (lane_is q l)

  -- ---- what the walk asks of the sheet

  pub classed : (t : List ℕ) → Tables (plain sheet) t → Classed sheet
  classed t ta =
      record {
        climbs = λ q l. subst (λ (col : Column). Climbs e col.first ss) (column q) (ta.climbs q (wide q l));
        classes = λ q l. omega (arith, lane_class q l, class_small q, classes_count);
        real = omega (arith, lanes_count);
        some = ar.plain.lives.some;
        spare = λ q m l. (
          subst (λ (col : Column). Alike (get_or sheet.lanes 0 no_lane).column col) (column q)
              (subst (λ (col : Column). Alike col (get_or (plain sheet).columns q no_column)) (column 0) (ta.spare q m (wide q l))),
          lane_class q l ∙ g.past q m ∙ sym (lane_class 0 (omega (arith, l)) ∙ g.first),
        );
      }
    where
      column : (q : ℕ) → get_or (plain sheet).columns q no_column ≡ (get_or sheet.lanes q no_lane).column
      column q = get_or-map column_in sheet.lanes q no_lane

      wide : (q : ℕ) → q < length sheet.lanes → q < lanes_in t
      wide q l = omega (arith, l, ta.wide, length-map sheet.lanes column_in)

  -- ---- the job's

  module _ (job : Job) (ho : HeldJobArrays job e ss fs ls rs ps nd rm) where
    abbrev part : ℕ → Held
    part q = held_at job q (part_at job q)

    -- where the arrays hold the job, their sheet is the job's
    pub sheet_of_lem : SheetOf job sheet
    sheet_of_lem =
        record {
          ends = ho.ends;
          places = ho.places;
          fees = ho.fees;
          removals = ho.removals;
          parts = sym ho.parts;
          some = omega (arith, ho.parts, ar.plain.lives.some);
          real = omega (arith, ho.parts, lanes_count);
          lane = λ q l. laid q (omega (arith, l, ho.parts));
          fills = λ q m l. fill q (omega (arith, m, ho.parts)) l;
        }
      where
        laid : (q : ℕ) → q < length ls → Laid sheet (get_or sheet.lanes q no_lane) (part q)
        laid q l =
            let is = lane_is q (omega (arith, l, lanes_count)) in
            let la = ho.lane q l in
            let life : lane_value_lem ls q ≡ (part q).part.life = there ls q (get_or ls 0 0) 0 l ∙ sym la.life in
            let left : lane_value_lem rs q ≡ (part q).part.left = there rs q (get_or rs 0 0) 0 (omega (arith, l, ar.plain.lives.lefts)) ∙ sym la.left in
            record {
              life = ap (λ (x : HeldColumn). x.column.life) is ∙ ap pos life;
              first = ap (λ (x : HeldColumn). x.column.first) is ∙ (λ i. pos (left i) -ℤ pos (life i));
              prices = ap (λ (x : HeldColumn). x.column.prices) is ∙ sym la.prices;
              needs = ap (needs_of_lem sheet) (lane_class q (omega (arith, l, lanes_count))) ∙ class_needs_lem (get_or k.lanes q 0) (class_small q) ∙ g.same q l ∙ sym la.needs;
            }

        fill : (q : ℕ) → length ls ≤ q → q < length sheet.lanes → Fills sheet (get_or sheet.lanes q no_lane) (get_or sheet.lanes 0 no_lane)
        fill q m l =
            let is = lane_is q l in
            let first = lane_is 0 (omega (arith, l)) in
            let a = past ls q ar.plain.lives.some m in
            let b = past rs q (omega (arith, ar.plain.lives.some, ar.plain.lives.lefts)) (omega (arith, m, ar.plain.lives.lefts)) in
            record {
              life = ap (λ (x : HeldColumn). x.column.life) is ∙ ap pos a ∙ sym (ap (λ (x : HeldColumn). x.column.life) first);
              first = ap (λ (x : HeldColumn). x.column.first) is ∙ (λ i. pos (b i) -ℤ pos (a i)) ∙ sym (ap (λ (x : HeldColumn). x.column.first) first);
              prices = λ j. ap (λ (x : HeldColumn). get_or x.column.prices j 0) is ∙ own_each (λ (x : ℕ). x ≡ 0) ps q (length ss) refl (λ j. ar.plain.free (q * price_stride + j) (omega arith)) j;
              needs = ap (needs_of_lem sheet) (lane_class q l ∙ g.past q m ∙ sym (lane_class 0 (omega (arith, l)) ∙ g.first));
            }
