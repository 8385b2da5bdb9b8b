-- What is kept stays given: frames one after the other, and a node's rows, marks and removals under a frame.
use Prim.Native.Nat.{ℕ, ◌+◌, ◌-◌, ◌<◌, ◌≤◌}
use mathlib.Core.Path.{◌≡◌, refl, sym, ap, subst, ◌∙◌}
use mathlib.Core.Bool.{Bool, true, false, cond, false≢true}
use mathlib.Core.List.{List}
use native.Mathlib.Omega.{arith}
use lib.ListN.{length, get_or, set, length-set}
use lib.Seq.{get_or-set_other}
use Rattle.base.specs.Filled.{FilledBy}
use Rattle.model.specs.Decisions.{concat}
use Rattle.model.specs.Limits.{most_openings}
use Rattle.lane_rows.specs.Layout.{lane_count_lem, mark_count, reach_base, price_place, lanes_in}
use Rattle.lane_rows.specs.Rows.{Kept, Memo, Recalled}
use Rattle.lane_rows.proofs.Memory.{lane_kept, recalled_none, recalled_then}
use Rattle.held_rows.specs.Held.{HeldSheet, plain, held}
use Rattle.held_rows.proofs.Rows.{rows_kept}
use Rattle.held_lanes.specs.Places.{last_place, removed_place, best_place, pending_place, ready_place}
use Rattle.held_stops.specs.Stops.{Pended}
use Rattle.search_state.specs.State.{view_of}
use Rattle.search_state.specs.declared.Search.{Search}
use Rattle.held_nodes.specs.declared.Node.{Node}
use Rattle.held_nodes.specs.State.{removals_in, best_in, view, written, sees_at, Written, Pending, StopAt, OpenAt, At, Aside, Frame}
use Rattle.held_nodes.proofs.Blocks.{blocks_same}

-- where nothing moved, all that stands beside the stack is kept
pub aside_none : (v : List ℕ) (n k : ℕ) → Aside v v n k
aside_none v n k = record { size = refl; lasts = λ i c l m. refl; removals = λ i l. refl; rows = λ i q l m. refl; ready = λ i l. refl }

-- what is kept beside the stack by one step and by the next is kept by both together
pub aside_then : {v v' v'' : List ℕ} {m n j k : ℕ} → m ≤ n → j ≤ k → Aside v v' m j → Aside v' v'' n k → Aside v v'' m j
aside_then g h a b =
    record {
      size = b.size ∙ a.size;
      lasts = λ i c l m. b.lasts i c (omega arith) m ∙ a.lasts i c l m;
      removals = λ i l. b.removals i (omega arith) ∙ a.removals i l;
      rows = λ i q l m. b.rows i q (omega arith) m ∙ a.rows i q l m;
      ready = λ i l. b.ready i (omega arith) ∙ a.ready i l;
    }

-- rows, memo and removals that one step keeps and the next keeps too are kept by both together
pub frame_then : {t w w' w'' v v' v'' : List ℕ} {m n j k : ℕ} → m ≤ n → j ≤ k → Frame t w w' v v' m j → Frame t w' w'' v' v'' n k → Frame t w w'' v v'' m j
frame_then {t} {w} {w'} {w''} {v} {v'} {v''} {m} {n} g h a b =
    record { recalled = recalled_then t w w' w'' m n g a.recalled.kept b.recalled; aside = aside_then g h a.aside b.aside }

-- a look at the rows
pub frame_looked : {t w w' : List ℕ} {n : ℕ} (v : List ℕ) (k : ℕ) → Recalled t w w' n → Frame t w w' v v n k
frame_looked {t} {w} {w'} {n} v k r = record { recalled = r; aside = aside_none v n k }

-- the row of a stop
pub pended_kept : (t w w' v v' : List ℕ) (j n : ℕ) → lanes_in t ≤ lane_count_lem → Kept w w' n → ((q : ℕ) → q < lane_count_lem → get_or v' (pending_place n q) 0 ≡ get_or v (pending_place n q) 0) → Pended t w v j n → Pended t w' v' j n
pended_kept t w w' v v' j n h k e p q l =
    let g : q < lane_count_lem = omega arith in
    e q g ∙ p q l ∙ ap (λ (x : ℕ). x + get_or t (price_place j q) 0) (sym (lane_kept t w w' reach_base j q n n k g (omega arith)))

-- a row that is noted as not ready
pub ready_frame : (t w v : List ℕ) (n k : ℕ) → Memo t w n → n ≤ most_openings → k ≤ most_openings → Frame t w w v (set v (ready_place n) 0) n k
ready_frame t w v n k m h g =
    record {
      recalled = recalled_none t w n m;
      aside = record {
        size = length-set v (ready_place n) 0;
        lasts = λ i c l j. get_or-set_other v (ready_place n) (last_place i c) 0 0 (λ z. omega (arith, z));
        removals = λ i l. get_or-set_other v (ready_place n) (removed_place i) 0 0 (λ z. omega (arith, z));
        rows = λ i q l j. get_or-set_other v (ready_place n) (pending_place i q) 0 0 (λ z. omega (arith, z));
        ready = λ i l. get_or-set_other v (ready_place n) (ready_place i) 0 0 (λ z. omega (arith, z));
      };
    }

-- the removals that are kept as the incumbent's
pub keep_frame : (t w v v' : List ℕ) (n k : ℕ) (f : ℕ → ℕ) → Memo t w n → n ≤ mark_count → k ≤ most_openings → FilledBy best_place f most_openings v v' → Frame t w w v v' n k
keep_frame t w v v' n k f m h g e =
    record {
      recalled = recalled_none t w n m;
      aside = record {
        size = e.size;
        lasts = λ i c l j. e.rest (last_place i c) (λ y o z. omega (arith, z));
        removals = λ i l. e.rest (removed_place i) (λ y o z. omega (arith, z));
        rows = λ i q l j. e.rest (pending_place i q) (λ y o z. omega (arith, z));
        ready = λ i l. e.rest (ready_place i) (λ y o z. omega (arith, z));
      };
    }

-- the incumbent's name
pub best_kept : (limit : ℕ) (sheet : HeldSheet) (v v' : List ℕ) (s : Search) → ((i : ℕ) → i < length sheet.positions → best_in v' i ≡ best_in v i) → view limit sheet v' s ≡ view limit sheet v s
best_kept limit sheet v v' s e =
    let r = blocks_same (held sheet) (best_in v') (best_in v) (length sheet.positions) s.mask e in
    ap (λ (l : List (List Bool)). view_of limit (λ (m : ℕ). concat l) s) r

-- blocks whose rows, last marks and removals are written stay written under a frame that keeps them
pub written_kept : {sheet : HeldSheet} {bs : List (List Bool)} {t w w' v v' : List ℕ} {rows at m : ℕ} → length sheet.needs ≤ lane_count_lem → Frame t w w' v v' rows at → Written sheet bs t w v rows at m → Written sheet bs t w' v' rows at m
written_kept {sheet} {bs} {t} {w} {w'} {v} {v'} {rows} {at} {m} few f a =
    let some = a.rows_are.some in
    record {
      size = a.size;
      rows_are = rows_kept (plain sheet) w w' (length bs) (sees_at sheet bs) rows a.rows_are f.recalled.kept;
      memo = f.recalled.memo;
      lasts = λ c l. f.aside.lasts (rows - 1) c (omega (arith, some)) (omega (arith, few)) ∙ a.lasts c l;
      blocks = blocks_same (held sheet) (removals_in v') (removals_in v) at m f.aside.removals ∙ a.blocks;
    }

-- the node with other rows, owed or not, and with another stop's shut lanes and removals
abbrev pub moved_n : Node → ℕ → Bool → ℕ → ℕ → Node
moved_n p r o m k = record { at = p.at; rows = r; next = p.next; owed = o; shut = m; removed = k; spent = p.spent; mask = p.mask }

-- it is given where what hangs on its being owed is
abbrev pub at_moved : {sheet : HeldSheet} {ds : List (List Bool)} {t u w w' v v' : List ℕ} {p : Node} {x g : ℕ} → At sheet ds t u w v p x g → length v' ≡ length v → (r : ℕ) (o : Bool) (m k : ℕ) → Pending t w' v' (moved_n p r o m k)
    → (o ≡ true → StopAt sheet ds t w' v' (moved_n p r o m k)) → (o ≡ false → OpenAt sheet ds t w' v' (moved_n p r o m k)) → At sheet ds t u w' v' (moved_n p r o m k) x g
at_moved a z r o m k pending stop opening =
    record {
      tables = a.tables;
      holders = a.holders;
      fit = a.fit;
      aside = z ∙ a.aside;
      inside = a.inside;
      mask = a.mask;
      spent = a.spent;
      poor = a.poor;
      sums = a.sums;
      low = a.low;
      term = a.term;
      cheap = a.cheap;
      pending = pending;
      stop = stop;
      opening = opening;
    }

-- at an opening that is its rows, written
pub at_open : {sheet : HeldSheet} {ds : List (List Bool)} {t u w w' v v' : List ℕ} {p : Node} {x g : ℕ} → At sheet ds t u w v p x g → length v' ≡ length v → (r m k : ℕ) → Written sheet ds t w' v' r p.at p.mask → p.next ≡ held sheet → At sheet ds t u w' v' (moved_n p r false m k) x g
at_open a z r m k wr n = at_moved a z r false m k (λ o. absurd (false≢true o)) (λ o. absurd (false≢true o)) (λ o. record { all = wr; next = n })

-- what is given of a node
unfoldable pub at_kept : {sheet : HeldSheet} {ds : List (List Bool)} {t u w w' v v' : List ℕ} {p : Node} {x g : ℕ} → Frame t w w' v v' p.rows (written p) → Pending t w' v' p → At sheet ds t u w v p x g → At sheet ds t u w' v' p x g
at_kept {sheet} {ds} {t} {u} {w} {w'} {v} {v'} {p} {x} {g} f pe a =
    at_moved a f.aside.size p.rows p.owed p.shut p.removed pe
    (λ o.
    let s = a.stop o in
    let k = subst (Frame t w w' v v' p.rows) (ap (λ (b : Bool). cond b (p.at - 1) p.at) o) f in
    record {
      bs = s.bs;
      rs = s.rs;
      same = s.same;
      later = s.later;
      before = written_kept a.holders.few k s.before;
      price = s.price;
      there = s.there;
      odd = s.odd;
      next = s.next;
      removed = s.removed;
      small = s.small;
      shut = s.shut;
    })
    (λ o.
    let k = subst (Frame t w w' v v' p.rows) (ap (λ (b : Bool). cond b (p.at - 1) p.at) o) f in
    record { all = written_kept a.holders.few k (a.opening o).all; next = (a.opening o).next })
