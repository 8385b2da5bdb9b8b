-- What the functions over the rows ask, from the rows, marks and removals that are written; and that sums and terms are there together.
use Prim.Native.Nat.{ℕ, suc, ◌+◌, ◌-◌, ◌*◌, ◌<◌, ◌≤◌, max}
use mathlib.Core.Path.{◌≡◌, refl, sym, ap, ap₂, subst, ◌∙◌}
use mathlib.Core.Bool.{Bool, true, false, cond}
use mathlib.Core.List.{List, [], ◌∷◌}
use native.Mathlib.Omega.{arith}
use lib.ListN.{length, get_or, length-take, length-map}
use lib.Seq.{get_or-take}
use Rattle.branch.specs.declared.Bound.{Bound}
use Rattle.branch.specs.declared.Bound.TheVariants.{Sum}
use Rattle.branch.specs.Lower.{larger, largest}
use Rattle.lane_rows.specs.Layout.{lane_count_lem, inf, suffix_base, reach_base, lanes_in}
use Rattle.lane_rows.specs.Tables.{Coded, Tables}
use Rattle.lane_rows.specs.Rows.{lane, sum_lanes, Stack, Looks, Owing}
use Rattle.lane_rows.proofs.Lanes.{lane_most, sum_most, seen_reach}
use Rattle.lane_rows.proofs.Terms.{last_most}
use Rattle.held_rows.specs.Held.{HeldColumn, HeldSheet, plain, column_in, no_lane, needs_of_lem, seen, lane_bound, lane_fee, part_lanes, held_sums, held_term, Classed}
use Rattle.held_rows.proofs.Seen.{seen-length}
use Rattle.held_rows.proofs.Sums.{fee_there, each_there}
use Rattle.held_rows.proofs.Rows.{stack_at}
use Rattle.held_lanes.specs.Places.{bit_at}
use Rattle.held_lanes.specs.Tables.{HeldTables, TermAsks, NoteAsks}
use Rattle.held_stops.specs.Stops.{stop_lane, LooksAtStop}
use Rattle.held_nodes.specs.State.{sees_at, Written}

-- ---- numbers

-- no sum of lanes is above sixteen times the number for Missing
pub sums_low : (f : ℕ → ℕ) (n y : ℕ) → n ≤ lane_count_lem → ((i : ℕ) → f i ≤ inf) → y ≡ sum_lanes n f → y ≤ lane_count_lem * inf
sums_low f n y l h e = omega (arith, e, sum_most f inf 0 n h)

-- nor is a lane at a stop above that number
pub stop_most : (t w : List ℕ) (j n set q : ℕ) → stop_lane t w j n set q ≤ inf
stop_most t w j n set q = go (bit_at q set)
  where
    go : (b : Bool) → cond b (lane t w suffix_base j q n) (lane t w suffix_base (j - 1) q n) ≤ inf
    go true = lane_most t w suffix_base j q n
    go false = lane_most t w suffix_base (j - 1) q n

-- a number that stands for a price
pub coded_there : (b n : ℕ) (e : Bound) (k : ℕ) → Coded b n e → e ≡ Sum k → (n ≡ k) × (k ≤ b)
coded_there b n e k c f = subst (Coded b n) f c

-- ---- where the sums are there, so is the term

fees_there : (f : HeldColumn → List Bool → Bound) (xs : List HeldColumn) → ((i : ℕ) → i < length xs → (m : ℕ) × (f (get_or xs i no_lane) [] ≡ Sum m)) → (k : ℕ) × (largest f xs [] ≡ Sum k)
fees_there f [] h = (0, refl)
fees_there f (x ∷ xs) h =
    let a = h 0 (omega arith) in
    let b = fees_there f xs (λ i l. h (suc i) (omega arith)) in
    (max a.0 b.0, ap₂ larger a.1 b.1)

-- where the part sums of a node are there, its term is there too
pub term_there : (sheet : HeldSheet) (ds : List (List Bool)) (x : ℕ) → Classed sheet → held_sums sheet ds ≡ Sum x → (k : ℕ) × (held_term sheet ds ≡ Sum k)
term_there sheet ds x fit e = fees_there (lane_fee sheet ds) (part_lanes sheet) each
  where
    each : (i : ℕ) → i < length (part_lanes sheet) → (m : ℕ) × (lane_fee sheet ds (get_or (part_lanes sheet) i no_lane) [] ≡ Sum m)
    each i l =
        let z : i < sheet.parts = omega (arith, length-take sheet.parts sheet.lanes) in
        let b = each_there (lane_bound sheet ds) sheet.lanes x e i (omega (arith, fit.real)) in
        let f = fee_there sheet ds (get_or sheet.lanes i no_lane) b.0 b.1 in
        (f.0, ap (λ (lane : HeldColumn). lane_fee sheet ds lane []) (get_or-take sheet.parts sheet.lanes i no_lane z) ∙ f.1)

-- ---- the rows of a stop

module _ {sheet : HeldSheet} {bs : List (List Bool)} {t u w v : List ℕ} {rows at m : ℕ} (ta : Tables (plain sheet) t) (he : HeldTables sheet u) (wr : Written sheet bs t w v rows at m) where
  -- the rows are few
  pub rows_few : (0 < rows) × (rows ≤ at + 1)
  rows_few = (wr.rows_are.some, omega (arith, wr.rows_are.few, wr.size))

  -- a look at the rows
  pub looks_at : (j : ℕ) → at ≤ j → j ≤ length sheet.positions → Looks t w rows j
  looks_at j h l =
      record {
        memo = wr.memo;
        stack = stack_at (plain sheet) t w (length bs) (sees_at sheet bs) rows ta wr.rows_are j (omega (arith, wr.size)) l;
        size = ta.size;
        some = wr.rows_are.some;
      }

  -- the rows of a stop at the next opening may be looked at on both levels, where it is allowed and where it is shut
  pub looks_stop : at < length sheet.positions → LooksAtStop t u w rows (at + 1)
  looks_stop h =
      let z : at + 1 - 1 ≡ at = omega arith in
      record {
        later = omega arith;
        allowed = subst (Looks t w rows) (sym z) (looks_at at (omega arith) (omega arith));
        shut = looks_at (at + 1) (omega arith) (omega arith);
        masks = he.masks;
      }

  -- a look at the terms
  pub term_asks : (j : ℕ) → at ≤ j → j ≤ length sheet.positions → TermAsks u v j (rows - 1)
  term_asks j h l =
      let few = ta.few in
      let r = rows_few in
      record {
        few = omega (arith, he.classes, he.few);
        near = omega arith;
        row = omega (arith, r.0, r.1);
        marks = λ c k.
            let g : c < length sheet.needs = omega (arith, he.classes) in
            omega (arith, wr.lasts c g, last_most (seen (needs_of_lem sheet c) bs), seen-length (needs_of_lem sheet c) bs, wr.size, he.few);
      }

  -- the row of a stop
  pub owing_stop : at < length sheet.positions → Owing (lanes_in t) t w at rows
  owing_stop h =
      let few = ta.few in
      let z = wr.size in
      record {
        stack = subst (λ (j : ℕ). Stack (lanes_in t) t w reach_base j rows) z (seen_reach (plain sheet) t w (length bs) (sees_at sheet bs) rows ta wr.rows_are (omega arith));
        size = ta.size;
        near = omega arith;
        few = omega (arith, rows_few.1);
        cheap = λ q l. omega (arith, (ta.lanes q l).price at h, (ta.lanes q l).cheap at);
      }

  -- its marks
  pub note_asks : at < length sheet.positions → NoteAsks u (at + 1) rows
  note_asks h =
      let few = ta.few in
      record {
        masks = he.masks;
        few = omega (arith, he.classes, he.few);
        near = omega arith;
        some = rows_few.0;
        row = omega (arith, rows_few.1);
        leads = λ c l. omega (arith, (he.leads c (omega (arith, he.classes))).0, lanes_few);
      }
    where
      lanes_few : length sheet.lanes ≤ lane_count_lem
      lanes_few = omega (arith, ta.wide, ta.narrow, length-map sheet.lanes column_in)
