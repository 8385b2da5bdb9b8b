-- A node whose stop is settled: what is given of it, and what is kept.
use Prim.Native.Nat.{ℕ, ◌+◌, ◌-◌, ◌/◌, ◌^◌, ◌<◌, ◌≤◌}
use mathlib.Core.Path.{◌≡◌, refl, sym, ap, ap₂, subst, ◌∙◌}
use mathlib.Core.Bool.{Bool, true, false, cond, false≢true}
use mathlib.Core.List.{List, [], ◌∷◌, ◌++◌}
use native.Mathlib.Omega.{arith}
use native.Mathlib.Nat.{pow-le-pow_right}
use lib.ListN.{length, length-append}
use Rattle.model.specs.Limits.{most_openings}
use Rattle.lane_rows.specs.Layout.{lanes_in}
use Rattle.lane_rows.specs.Rows.{Put}
use Rattle.lane_rows.proofs.Lanes.{kept_then}
use Rattle.lane_rows.proofs.Memory.{recalled_none, recalled_then}
use Rattle.held_rows.specs.Held.{HeldSheet, plain, held}
use Rattle.held_rows.specs.Rows.{SeenRows, stop_row_lem}
use Rattle.held_lanes.specs.Places.{bit_at, last_place, removed_place, best_place, pending_place, ready_place}
use Rattle.held_lanes.specs.Tables.{Lasts, NoteAsks, noted}
use Rattle.held_stops.specs.Stops.{SettleAsks, StopPut, StopNoted}
use Rattle.held_stops.proofs.Settled.{stop_settled, lasts_settled}
use Rattle.search_state.specs.State.{bits}
use Rattle.held_nodes.specs.declared.Node.{Node}
use Rattle.held_nodes.specs.State.{blocks_of, removals_in, best_in, settled_n, written, sees_at, Written, Pending, StopAt, At, Aside, Frame, NodeSettled}
use Rattle.held_nodes.proofs.Blocks.{blocks_same, blocks_stop}
use Rattle.held_nodes.proofs.Frames.{aside_none, pended_kept, at_open}
use Rattle.held_nodes.proofs.Given.{rows_few, owing_stop, note_asks}

-- the blocks with one more
more_size : (bs : List (List Bool)) (b : List Bool) → length (bs ++ (b ∷ [])) ≡ length bs + 1
more_size bs b = length-append bs (b ∷ [])

-- ---- at a stop

module _ {sheet : HeldSheet} {ds : List (List Bool)} {t u w v : List ℕ} {p : Node} {x g : ℕ} (a : At sheet ds t u w v p x g) (s : StopAt sheet ds t w v p) where
  abbrev at : ℕ
  at = p.at - 1

  later : at + 1 ≡ p.at
  later = omega (arith, s.later)

  less : at < length sheet.positions
  less = omega (arith, a.inside, s.later)

  -- a node at a stop gives all that settling the stop asks, and its removals fit in 32 bits
  pub settle_asks : Pending t w v p → p.owed ≡ true → SettleAsks t u v w p.at p.rows × (p.removed < 2 ^ 32)
  settle_asks pe o =
      let few = a.tables.few in
      let h : 2 ^ p.next ≤ 2 ^ 32 = pow-le-pow_right {n = 2} (omega arith) {i = p.next} {j = 32} (omega (arith, s.next, a.holders.parts)) in (
        record {
          later = s.later;
          near = omega (arith, a.inside);
          owing = owing_stop a.tables a.holders s.before less;
          pended = pe o;
          notes = subst (λ (k : ℕ). NoteAsks u k p.rows) later (note_asks a.tables a.holders s.before less);
        },
        omega (arith, s.small, h),
      )

  module _ {w' v' : List ℕ} (put : StopPut t w w' p.at p.rows p.shut) (nt : StopNoted t u w v v' p.at p.rows p.shut p.removed) where
    few : (0 < p.rows) × (p.rows ≤ most_openings) × (p.at ≤ most_openings)
    few = let r = rows_few a.tables a.holders s.before in (r.0, omega (arith, r.1, s.later, a.inside, a.tables.few), omega (arith, a.inside, a.tables.few))

    -- the rows and marks below stay
    settle_keeps : Aside v v' p.rows at
    settle_keeps =
        let f = few in
        let late = s.later in
        record {
          size = nt.size;
          lasts = λ i c l m. nt.rest (last_place i c) (λ d k e. omega (arith, e, f)) (λ q k e. omega (arith, e, f)) (λ e. omega (arith, e, f)) (λ e. omega (arith, e, f));
          removals = λ i l. nt.rest (removed_place i) (λ d k e. omega (arith, e, f)) (λ q k e. omega (arith, e, f)) (λ e. omega (arith, e, f)) (λ e. omega (arith, e, f));
          rows = λ i q l m. nt.rest (pending_place i q) (λ d k e. omega (arith, e, f)) (λ c k e. omega (arith, e, f)) (λ e. omega (arith, e, f)) (λ e. omega (arith, e, f));
          ready = λ i l. nt.rest (ready_place i) (λ d k e. omega (arith, e, f)) (λ q k e. omega (arith, e, f)) (λ e. omega (arith, e, f)) (λ e. omega (arith, e, f));
        }

    -- and the incumbent's removals
    settle_best : (i : ℕ) → i < most_openings → best_in v' i ≡ best_in v i
    settle_best i l = let f = few in nt.rest (best_place i) (λ d k e. omega (arith, e, f)) (λ q k e. omega (arith, e, f)) (λ e. omega (arith, e, f)) (λ e. omega (arith, e, f))

    settle_frame : Frame t w w' v v' p.rows at
    settle_frame =
        record {
          recalled = recalled_then t w w' w' p.rows (p.rows + 1) (omega arith) put.put.kept (recalled_none t w' (p.rows + 1) (put.memo s.before.memo));
          aside = settle_keeps;
        }

    -- all its blocks are written then
    settle_written : p.next ≡ held sheet → Written sheet ds t w' v' (p.rows + 1) p.at p.mask
    settle_written done =
        let bs = s.bs in
        let rs = s.rs in
        let h = held sheet in
        let wr = s.before in
        let z : length bs ≡ at = wr.size in
        let y : length bs + 1 ≡ p.at = omega (arith, z, later) in
        let same = s.same in
        let n : p.rows + 1 - 1 ≡ p.rows = omega arith in
        let rows = subst (λ (k : ℕ). Put (lanes_in t) (stop_row_lem t w k p.rows (λ (q : ℕ). bit_at q p.shut)) w w' p.rows p.at) (sym z) put.put in
        let seen = stop_settled sheet t u v w a.tables bs rs p.rows p.shut s.shut w' (omega (arith, z, less)) wr.rows_are (subst (Put (lanes_in t) (stop_row_lem t w (length bs) p.rows (λ (q : ℕ). bit_at q p.shut)) w w' p.rows) (sym y) rows) in
        let lasts = lasts_settled sheet t u v w a.tables bs rs p.rows p.shut s.shut v' a.holders wr.lasts (λ c l. nt.lasts c l ∙ ap (λ (k : ℕ). noted u v k p.rows p.shut c) (sym y)) in
        subst (λ (ls : List (List Bool)). Written sheet ls t w' v' (p.rows + 1) p.at p.mask) (sym same)
        (record {
          size = more_size bs (true ∷ rs) ∙ y;
          rows_are = subst (λ (k : ℕ). SeenRows (plain sheet) w' k (sees_at sheet (bs ++ ((true ∷ rs) ∷ []))) (p.rows + 1)) (sym (more_size bs (true ∷ rs))) seen;
          memo = put.memo wr.memo;
          lasts = subst (Lasts sheet v' (bs ++ ((true ∷ rs) ∷ []))) (sym n) lasts;
          blocks = ap (λ (k : ℕ). blocks_of h (removals_in v') k p.mask) (sym later)
              ∙ blocks_stop h (removals_in v') at p.mask rs s.odd (ap₂ bits (sym done) nt.removals ∙ s.removed)
              ∙ ap (λ (ls : List (List Bool)). ls ++ ((true ∷ rs) ∷ [])) (blocks_same h (removals_in v') (removals_in v) at (p.mask / 2) settle_keeps.removals ∙ wr.blocks);
        })

-- ---- a node, settled

-- given of it, what is kept, and that the row of its stop stays right as long as what is written is kept
pub record Rests (sheet : HeldSheet) (ds : List (List Bool)) (t u w w' v v' : List ℕ) (p : Node) (x g r : ℕ) : Type 0 where
  pub given : At sheet ds t u w' v' (settled_n p r) x g
  -- settling keeps the node's rows with their memo, and the removals that are written
  pub frame : Frame t w w' v v' p.rows (written p)
  -- settling a node takes no row away
  pub rows : p.rows ≤ r
  -- no more openings are written than are decided
  pub wrote : written p ≤ p.at
  -- settling leaves the incumbent's removals as they are
  pub best : (i : ℕ) → i < length sheet.positions → best_in v' i ≡ best_in v i
  -- the row of the node's stop stays right as long as what is written after settling is kept
  pub after : (w'' v'' : List ℕ) → Frame t w' w'' v' v'' r p.at → Pending t w'' v'' p

-- a node with all its removals decided rests once it is settled: it is given, and what was written is kept
pub rests : {sheet : HeldSheet} {ds : List (List Bool)} {t u w w' v v' : List ℕ} {p : Node} {x g r : ℕ} → At sheet ds t u w v p x g → held sheet ≤ p.next → NodeSettled t u w w' v v' p r → Rests sheet ds t u w w' v v' p x g r
rests {sheet} {ds} {t} {u} {w} {w'} {v} {v'} {p} {x} {g} {r} a done st = go p.owed refl
  where
    go : (b : Bool) → p.owed ≡ b → Rests sheet ds t u w w' v v' p x g r
    go false o =
        let e = st.no o in
        let op = a.opening o in
        let wr = subst (λ (z : List ℕ). Written sheet ds t w' z r p.at p.mask) (sym e.2) (subst (λ (y : List ℕ). Written sheet ds t y v r p.at p.mask) (sym e.1) (subst (λ (k : ℕ). Written sheet ds t w v k p.at p.mask) (sym e.0) op.all)) in
        let wrote = ap (λ (b : Bool). cond b (p.at - 1) p.at) o in
        record {
          given = at_open a (ap length e.2) r p.shut p.removed wr op.next;
          frame = subst (λ (y : List ℕ). Frame t w y v v' p.rows (written p)) (sym e.1) (subst (λ (z : List ℕ). Frame t w w v z p.rows (written p)) (sym e.2) (record { recalled = recalled_none t w p.rows op.all.memo; aside = aside_none v p.rows (written p) }));
          rows = omega (arith, e.0);
          wrote = omega (arith, wrote);
          best = λ i l. ap (λ (y : List ℕ). best_in y i) e.2;
          after = λ w'' v'' f q. absurd (false≢true (sym o ∙ q));
        }
    go true o =
        let e = st.yes o in
        let s = a.stop o in
        let n : p.next ≡ held sheet = omega (arith, done, s.next) in
        let wrote = ap (λ (b : Bool). cond b (p.at - 1) p.at) o in
        let fr = settle_frame a s e.1 e.2 in
        record {
          given = at_open a e.2.size r p.shut p.removed (subst (λ (k : ℕ). Written sheet ds t w' v' k p.at p.mask) (sym e.0) (settle_written a s e.1 e.2 n)) n;
          frame = subst (Frame t w w' v v' p.rows) (sym wrote) fr;
          rows = omega (arith, e.0);
          wrote = omega (arith, wrote);
          best = λ i l. settle_best a s e.1 e.2 i (omega (arith, a.tables.few));
          after = λ w'' v'' f q ready.
              let narrow = a.tables.narrow in
              pended_kept t w w'' v' v'' (p.at - 1) p.rows narrow (kept_then w w' w'' p.rows r (omega (arith, e.0)) fr.recalled.kept f.recalled.kept) (λ i l. f.aside.rows p.rows i (omega (arith, e.0)) l) e.2.row;
        }
