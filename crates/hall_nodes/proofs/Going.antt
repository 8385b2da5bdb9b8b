-- One line goes on, as in one line's walk: the laws of held_nodes for the nodes below an opening and below a stop, said of slots. And a line that is settled, or looked at, or whose next row is noted as not ready.
use Prim.Native.Nat.{ℕ, ◌+◌, ◌-◌, ◌*◌, ◌<◌, ◌≤◌, max}
use mathlib.Core.Path.{◌≡◌, refl, sym, ap, subst, ◌∙◌}
use mathlib.Core.Bool.{Bool, true, false, cond, false≢true}
use mathlib.Core.List.{List, [], ◌∷◌, ◌++◌}
use native.Mathlib.Omega.{arith}
use lib.Bits.{bit_or}
use lib.ListN.{length, get_or, set}
use Rattle.model.specs.Decisions.{concat}
use Rattle.lane_rows.specs.Layout.{lane_count_lem, inf, suffix_base, fee_place, lanes_in}
use Rattle.lane_rows.specs.Rows.{lane, sum_lanes, Recalled}
use Rattle.held_rows.specs.Held.{held}
use Rattle.held_lanes.specs.Places.{most_to, top_place, classes_place, removal_place, need_lanes_place, need_count_place, need_class_place, ready_place}
use Rattle.held_lanes.specs.Tables.{term_of}
use Rattle.held_stops.specs.Stops.{stop_lane}
use Rattle.held_stops.proofs.Names.{no_joined, stop_joined, stop_more}
use Rattle.branch.specs.Search.{snoc}
use Rattle.held_nodes.specs.declared.Node.{Node}
use Rattle.held_nodes.specs.State.{written, Pending, Frame}
use Rattle.lane_rows.proofs.Lanes.{kept_refl}
use Rattle.lane_rows.proofs.Memory.{recalled_then}
use Rattle.held_nodes.proofs.Frames.{aside_none, aside_then, frame_then, frame_looked, pended_kept, ready_frame}
use Rattle.held_nodes.proofs.Settling.{Rests}
use Rattle.held_nodes.proofs.Openings.{no_below, no_cheap, at_no, at_yes}
use Rattle.held_nodes.proofs.Stops.{stays_shut, stays_below, stays_cheap, at_stays, at_out}
use Rattle.hall_nodes.specs.Lines.{Slot, Given, Goes, no_slot, yes_slot, stays_slot, out_slot, settled_slot, with_rows, SlotKept}

-- how many openings are written, by whether a stop is owed
written_by : (p : Node) (b : Bool) → p.owed ≡ b → written p ≡ cond b (p.at - 1) p.at
written_by p b o = ap (λ (c : Bool). cond c (p.at - 1) p.at) o

-- ---- below an opening

module _ (s : Slot) (a : Given s) (o : s.node.owed ≡ false) (less : s.node.at < length s.sheet.positions) where
  -- a line at an opening goes on without a stop, with the term and part sums found
  pub no_goes : (h y : ℕ) → h ≡ most_to (term_of s.u s.v (s.node.at + 1) (s.node.rows - 1)) (get_or s.u classes_place 0)
      → y ≡ sum_lanes (lanes_in s.t) (λ (q : ℕ). lane s.t s.w suffix_base (s.node.at + 1) q s.node.rows) → h < inf → y ≤ lane_count_lem * inf → Goes false s (no_slot s y h)
  no_goes h y term sum l low = record {
    sheet = refl;
    name = sym (no_joined s.blocks);
    given = at_no a o less h y (no_below a o less h y term sum) l (no_cheap a o less h y term sum l) low;
    t = refl;
    w = refl;
    v = refl;
    rows = omega arith;
    wrote = omega (arith, written_by s.node false o);
    back = λ w v _ q. absurd (false≢true (sym o ∙ q));
  }

  -- a line at an opening is kept where its next row is noted as not ready
  pub fresh_kept : SlotKept s (with_rows s s.w (set s.v (ready_place s.node.rows) 0))
  fresh_kept =
      let wr = (a.opening o).all in
      record {
        same = refl;
        frame = ready_frame s.t s.w s.v s.node.rows (written s.node) wr.memo (omega (arith, wr.rows_are.few, wr.size, less, a.tables.few)) (omega (arith, written_by s.node false o, a.inside, a.tables.few));
        pending = λ q. absurd (false≢true (sym o ∙ q));
      }

  -- a line at an opening goes on with a stop, its fee paid and its row noted as not ready
  pub yes_goes : (k paying : ℕ) → k ≡ get_or s.u (top_place (s.node.at + 1)) 0 → paying ≡ s.node.spent + get_or s.t (fee_place s.node.at) 0 → get_or s.v (ready_place s.node.rows) 0 ≡ 0 → Goes true s (yes_slot s paying k)
  yes_goes k paying top cost fresh = record {
    sheet = refl;
    name = sym (stop_joined s.blocks []);
    given = at_yes a o less k paying top cost fresh;
    t = refl;
    w = refl;
    v = refl;
    rows = omega arith;
    wrote = omega (arith, written_by s.node false o);
    back = λ w v _ q. absurd (false≢true (sym o ∙ q));
  }

-- ---- below a stop

module _ (s : Slot) (a : Given s) (o : s.node.owed ≡ true) (next : s.node.next < held s.sheet) where
  -- the blocks before the stop at hand
  abbrev pub before : List (List Bool)
  before = (a.stop o).bs

  -- the removals decided so far at the stop at hand
  abbrev pub removed : List Bool
  removed = (a.stop o).rs

  -- the name of a node below
  pub more_name : (x : Bool) → concat (before ++ ((true ∷ snoc removed x) ∷ [])) ≡ snoc (concat s.blocks) x
  more_name x = sym (stop_joined before (snoc removed x)) ∙ sym (stop_more before removed x) ∙ ap (λ (l : List Bool). snoc l x) (stop_joined before removed ∙ ap concat (sym (a.stop o).same))

  -- a line at a stop goes on with the next holding part not removed, with the term and part sums found
  pub stays_goes : (shut h y : ℕ) → shut ≡ bit_or s.node.shut (get_or s.u (need_lanes_place s.node.next) 0)
      → h ≡ max s.term (most_to (λ (i : ℕ). term_of s.u s.v s.node.at (s.node.rows - 1) (get_or s.u (need_class_place s.node.next i) 0)) (get_or s.u (need_count_place s.node.next) 0))
      → y ≡ sum_lanes (lanes_in s.t) (stop_lane s.t s.w s.node.at s.node.rows shut) → h < inf → y ≤ lane_count_lem * inf → Goes false s (stays_slot s before removed shut y h)
  stays_goes shut h y lanes term sum l low = record {
    sheet = refl;
    name = more_name false;
    given = at_stays a o next shut h y (stays_shut a o next shut h y lanes term sum) (stays_below a o next shut h y lanes term sum) l (stays_cheap a o next shut h y lanes term sum l) low;
    t = refl;
    w = refl;
    v = refl;
    rows = omega arith;
    wrote = omega (arith, written_by s.node true o);
    back = λ w v p q. p refl;
  }

  -- a line at a stop goes on with the next holding part removed, its removal paid
  pub out_goes : (paying : ℕ) → paying ≡ s.node.spent + get_or s.u (removal_place s.node.next) 0 → Goes true s (out_slot s before removed paying)
  out_goes paying cost = record {
    sheet = refl;
    name = more_name true;
    given = at_out a o next paying cost;
    t = refl;
    w = refl;
    v = refl;
    rows = omega arith;
    wrote = omega (arith, written_by s.node true o);
    back = λ w v p q. p refl;
  }

-- ---- what is kept

-- a look at the rows
pub looked_kept : (s : Slot) → Given s → (w : List ℕ) → Recalled s.t s.w w s.node.rows → SlotKept s (with_rows s w s.v)
looked_kept s a w k = record {
  same = refl;
  frame = frame_looked s.v (written s.node) k;
  pending = λ o r. pended_kept s.t s.w w s.v s.v (s.node.at - 1) s.node.rows a.tables.narrow k.kept (λ q l. refl) (a.pending o r);
}

-- a slot kept first, and then again, is kept throughout
pub kept_then : (s s' s'' : Slot) → SlotKept s s' → SlotKept s' s'' → SlotKept s (with_rows s s''.w s''.v)
kept_then s s' s'' k l =
    let m = subst (λ (x : Slot). Frame x.t x.w s''.w x.v s''.v x.node.rows (written x.node)) k.same l.frame in
    record {
      same = refl;
      frame = frame_then (omega arith) (omega arith) k.frame m;
      pending = subst (λ (x : Slot). Pending x.t s''.w s''.v x.node) k.same l.pending;
    }

-- of fewer rows and openings
frame_less : {t w w' v v' : List ℕ} {m n j k : ℕ} → m ≤ n → j ≤ k → Frame t w w' v v' n k → Frame t w w' v v' m j
frame_less {t} {w} {w'} {v} {v'} {m} {n} {j} {k} g h f =
    record { recalled = recalled_then t w w w' m n g (kept_refl w m) f.recalled; aside = aside_then g h (aside_none v m j) f.aside }

-- what is kept of the node below is kept of the node
pub goes_kept : (x : Bool) (s s' s'' : Slot) → Goes x s s' → SlotKept s' s'' → SlotKept s (with_rows s s''.w s''.v)
goes_kept x s s' s'' g l =
    let f : Frame s.t s.w s''.w s.v s''.v s'.node.rows (written s'.node) =
    subst (λ (t : List ℕ). Frame t s.w s''.w s.v s''.v s'.node.rows (written s'.node)) g.t
    (subst (λ (w : List ℕ). Frame s'.t w s''.w s.v s''.v s'.node.rows (written s'.node)) g.w
    (subst (λ (v : List ℕ). Frame s'.t s'.w s''.w v s''.v s'.node.rows (written s'.node)) g.v l.frame)) in
    record {
      same = refl;
      frame = frame_less g.rows g.wrote f;
      pending = g.back s''.w s''.v (subst (λ (t : List ℕ). Pending t s''.w s''.v s'.node) g.t l.pending);
    }

-- ---- a line that is settled

-- what is kept of it then is kept of it before
pub settled_kept : (s : Slot) (w v : List ℕ) (r : ℕ) → Rests s.sheet s.blocks s.t s.u s.w w s.v v s.node s.sums s.term r → (s'' : Slot) → SlotKept (settled_slot s w v r) s'' → SlotKept s (with_rows s s''.w s''.v)
settled_kept s w v r a s'' k = record {
  same = refl;
  frame = frame_then a.rows a.wrote a.frame k.frame;
  pending = a.after s''.w s''.v k.frame;
}
