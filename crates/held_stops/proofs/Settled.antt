-- A stop whose removals are decided is settled: its row makes the rows those of the node behind it, and the marks noted are the last ones that its classes are allowed.
use Prim.Native.Nat.{ℕ, suc, ◌+◌, ◌-◌, ◌<◌}
use mathlib.Core.Path.{◌≡◌, refl, sym, ap, ◌∙◌}
use mathlib.Core.Bool.{Bool, true, false, cond, not}
use mathlib.Core.List.{List, [], ◌∷◌, ◌++◌}
use native.Mathlib.Omega.{arith}
use lib.ListN.{length, get_or, length-map}
use Rattle.branch.specs.Search.{snoc}
use Rattle.model.specs.Decisions.{accessible}
use Rattle.model.specs.LastYes.{last_yes}
use Rattle.model.proofs.LastYes.{last_no, last_yes_lem}
use Rattle.lane_rows.specs.Layout.{lanes_in}
use Rattle.lane_rows.specs.Sheet.{Sheet, front, no_column}
use Rattle.lane_rows.specs.Tables.{Tables}
use Rattle.lane_rows.specs.Rows.{Put}
use Rattle.held_rows.specs.Held.{solid, HeldSheet, column_in, plain, no_lane, needs_of_lem, seen, seen_by, last_for}
use Rattle.held_rows.specs.Rows.{SeenRows, stop_row_lem}
use Rattle.held_rows.proofs.Seen.{seen_stop, seen-length}
use Rattle.held_rows.proofs.Rows.{rows-stop}
use Rattle.held_lanes.specs.Places.{bit_at, offset, lead_place, classes_place, last_place}
use Rattle.held_lanes.specs.Tables.{HeldTables, Lasts, noted}
use Rattle.held_stops.specs.Stops.{ShutSet}

not-not : (b : Bool) → not (not b) ≡ b
not-not true = refl
not-not false = refl

-- lanes that see the same
rows_alike : (sheet : Sheet) (w : List ℕ) (at : ℕ) (sees sees' : ℕ → List Bool) (n : ℕ) → ((q : ℕ) → q < length sheet.columns → sees q ≡ sees' q) → SeenRows sheet w at sees n → SeenRows sheet w at sees' n
rows_alike sheet w at sees sees' n e r =
    record {
      size = r.size;
      some = r.some;
      few = r.few;
      marks = r.marks;
      narrow = r.narrow;
      decided = λ q l. ap length (sym (e q l)) ∙ r.decided q l;
      level = r.level;
      fronts = λ q l. r.fronts q l ∙ ap (λ (p : List Bool). solid (front sheet.positions (get_or sheet.columns q no_column) p)) (e q l);
    }

module _ (sheet : HeldSheet) (t u v w : List ℕ) (ta : Tables (plain sheet) t) (bs : List (List Bool)) (rs : List Bool) (n set : ℕ) (bits : ShutSet sheet rs set) where
  abbrev at : ℕ
  at = length bs

  abbrev sees : List (List Bool) → ℕ → List Bool
  sees ds q = seen_by sheet ds (get_or sheet.lanes q no_lane)

  -- with the stop's row on the stack, the rows are those of the node behind the stop, as each lane sees it
  pub stop_settled : (w' : List ℕ) → at < length sheet.positions → SeenRows (plain sheet) w at (sees bs) n → Put (lanes_in t) (stop_row_lem t w at n (λ (q : ℕ). bit_at q set)) w w' n (at + 1)
      → SeenRows (plain sheet) w' (at + 1) (sees (bs ++ ((true ∷ rs) ∷ []))) (n + 1)
  stop_settled w' h r put =
      rows_alike (plain sheet) w' (at + 1) (λ (q : ℕ). snoc (sees bs q) (not (bit_at q set))) (sees (bs ++ ((true ∷ rs) ∷ []))) (n + 1) same
      (rows-stop (plain sheet) t w at (sees bs) n ta r h (λ (q : ℕ). bit_at q set) w' put)
    where
      same : (q : ℕ) → q < length (plain sheet).columns → snoc (sees bs q) (not (bit_at q set)) ≡ sees (bs ++ ((true ∷ rs) ∷ [])) q
      same q l =
          let needs = needs_of_lem sheet (get_or sheet.lanes q no_lane).class in
          ap (λ (b : Bool). snoc (sees bs q) (not b)) (bits q (omega (arith, length-map sheet.lanes column_in))) ∙ ap (snoc (sees bs q)) (not-not (accessible needs rs)) ∙ sym (seen_stop needs bs rs)

  -- the marks noted at the stop are the last ones that each class is allowed behind it
  pub lasts_settled : (v' : List ℕ) → HeldTables sheet u → Lasts sheet v bs (n - 1) → ((c : ℕ) → c < get_or u classes_place 0 → get_or v' (last_place n c) 0 ≡ noted u v (at + 1) n set c) → Lasts sheet v' (bs ++ ((true ∷ rs) ∷ [])) n
  lasts_settled v' he ls f c l =
      let needs = needs_of_lem sheet c in
      let lead = get_or u (lead_place c) 0 in
      let le = he.leads c l in
      f c (omega (arith, he.classes))
      ∙ ap (λ (b : Bool). cond b (get_or v (last_place (n - 1) c) 0) (offset (at + 1) c)) (bits lead le.0 ∙ ap (λ (k : ℕ). not (accessible (needs_of_lem sheet k) rs)) le.1)
      ∙ ap (λ (x : ℕ). cond (not (accessible needs rs)) x (offset (at + 1) c)) (ls c l)
      ∙ go (accessible needs rs)
      ∙ ap (λ (p : List Bool). offset (last_yes p) c) (sym (seen_stop needs bs rs))
    where
      go : (b : Bool) → cond (not b) (offset (last_for sheet bs c) c) (offset (at + 1) c) ≡ offset (last_yes (snoc (seen (needs_of_lem sheet c) bs) b)) c
      go true = let z : suc (length (seen (needs_of_lem sheet c) bs)) ≡ at + 1 = omega (arith, seen-length (needs_of_lem sheet c) bs) in ap (λ (k : ℕ). offset k c) (sym z ∙ sym (last_yes_lem (seen (needs_of_lem sheet c) bs)))
      go false = ap (λ (k : ℕ). offset k c) (sym (last_no (seen (needs_of_lem sheet c) bs)))
