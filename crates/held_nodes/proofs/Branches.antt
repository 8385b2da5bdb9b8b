-- The two branches of a node, one after the other, whatever is asked there: what the first leaves, and what both do.
use Prim.Native.Nat.{ℕ, ◌+◌, ◌-◌, ◌*◌, ◌^◌, ◌<◌, ◌≤◌}
use mathlib.Core.Path.{◌≡◌, refl, sym, ap, subst, ◌∙◌}
use mathlib.Core.Bool.{Bool, true, false}
use mathlib.Core.List.{List}
use native.Mathlib.Omega.{arith}
use lib.ListN.{length}
use Rattle.branch.specs.declared.Bound.{Bound}
use Rattle.branch.specs.declared.Bound.TheVariants.{Missing, Sum}
use Rattle.branch.specs.Search.{Tree, Limited, limited, onward}
use Rattle.model.specs.Decisions.{concat}
use Rattle.lane_rows.specs.Layout.{lane_count_lem, inf}
use Rattle.lane_rows.specs.Rows.{Recalled}
use Rattle.held_rows.specs.Held.{HeldSheet, held}
use Rattle.search_state.specs.declared.Search.{Search}
use Rattle.search_state.specs.State.{counted_s, reached_s, open_s}
use Rattle.held_nodes.specs.declared.Node.{Node}
use Rattle.held_nodes.specs.State.{best_in, best_name, view, settled_n, written, tree_at, Pending, At, Frame, HeldWalked}
use Rattle.search_state.proofs.Trees.{DueAt, closed, opened}
use Rattle.held_nodes.proofs.Frames.{frame_then, frame_looked, pended_kept, best_kept, at_kept}
use Rattle.held_nodes.proofs.Settling.{Rests}

-- ---- numbers of a node

-- no more removals are decided at a node's stop than there are holding parts
pub next_most : {sheet : HeldSheet} {ds : List (List Bool)} {t u w v : List ℕ} {p : Node} {x g : ℕ} → At sheet ds t u w v p x g → p.next ≤ held sheet
next_most {sheet} {ds} {t} {u} {w} {v} {p} a = go p.owed refl
  where
    go : (b : Bool) → p.owed ≡ b → p.next ≤ held sheet
    go true o = (a.stop o).next
    go false o = omega (arith, (a.opening o).next)

-- a removal is open only at a stop
pub stop_here_lem : {sheet : HeldSheet} {ds : List (List Bool)} {t u w v : List ℕ} {p : Node} {x g : ℕ} → At sheet ds t u w v p x g → p.next < held sheet → p.owed ≡ true
stop_here_lem {sheet} {ds} {t} {u} {w} {v} {p} a h = go p.owed refl
  where
    go : (b : Bool) → p.owed ≡ b → b ≡ true
    go true o = refl
    go false o = absurd (omega (arith, h, (a.opening o).next))

-- what is spent at a node, with any term and any part sums, fits in 64 bits
pub spent_fits : {sheet : HeldSheet} {ds : List (List Bool)} {t u w v : List ℕ} {p : Node} {x g : ℕ} → At sheet ds t u w v p x g → p.spent + inf + lane_count_lem * inf < 2 ^ 64
spent_fits a = omega (arith, a.poor, a.inside, a.tables.few, next_most a, a.holders.parts)

-- ---- the first branch

-- the search of the first node below, and what is kept
pub record Passed (sheet : HeldSheet) (t w w' v v' : List ℕ) (p : Node) (L : ℕ) (T : Tree) (name : List Bool) (s r : Search) : Type 0 where
  -- the state after the first branch is the search's, walked from the node below
  pub search : view L sheet v' r ≡ limited L T name (view L sheet v s)
  -- the first branch keeps the node's rows with their memo, and the removals that are written
  pub frame : Frame t w w' v v' p.rows (written p)
  -- after the first branch the row of the stop at hand is still right once it is ready
  pub pending : Pending t w' v' p

-- a branch that is passed is passed also under equal stacks and an equal state at its end
pub passed_as : {sheet : HeldSheet} {t w w' w'' v v' v'' : List ℕ} {p : Node} {L : ℕ} {T : Tree} {name : List Bool} {s r r' : Search}
    → w'' ≡ w' → v'' ≡ v' → r' ≡ r → Passed sheet t w w' v v' p L T name s r → Passed sheet t w w'' v v'' p L T name s r'
passed_as {sheet} {t} {w} {w'} {w''} {v} {v'} {v''} {p} {L} {T} {name} {s} {r} {r'} e f k z =
    subst (λ (y : List ℕ). Passed sheet t w y v v'' p L T name s r') (sym e)
    (subst (λ (y : List ℕ). Passed sheet t w w' v y p L T name s r') (sym f)
    (subst (λ (y : Search). Passed sheet t w w' v v' p L T name s y) (sym k) z))

-- a walk from a node and a state is one from an equal node and an equal state
pub walked_as : {sheet : HeldSheet} {ds : List (List Bool)} {t w w' v v' : List ℕ} {L : ℕ} {p p' : Node} {s s' r : Search} → p' ≡ p → s' ≡ s → HeldWalked sheet ds t w w' v v' L p' s' r → HeldWalked sheet ds t w w' v v' L p s r
walked_as {sheet} {ds} {t} {w} {w'} {v} {v'} {L} {p} {p'} {s} {s'} {r} e f z = subst (λ (q : Node). HeldWalked sheet ds t w w' v v' L q s r) e (subst (λ (y : Search). HeldWalked sheet ds t w w' v v' L p' y r) f z)

module _ {sheet : HeldSheet} {ds : List (List Bool)} {t u w v : List ℕ} {p : Node} {x g : ℕ} (a : At sheet ds t u w v p x g) (w' : List ℕ) (k : Recalled t w w' p.rows) where
  -- a look keeps what is given
  unfoldable pub at_looked : At sheet ds t u w' v p x g
  at_looked = at_kept (frame_looked v (written p) k) (λ o r. pended_kept t w w' v v (p.at - 1) p.rows a.tables.narrow k.kept (λ q l. refl) (a.pending o r)) a

  -- the first node is passed by
  pub first_closed : {T : Tree} {e : Bound} {due : ℕ} (d : DueAt T e due) (name : List Bool) (L : ℕ) (s : Search) → open_s L due e s ≡ Missing → Passed sheet t w w' v v p L T name s (reached_s L s)
  first_closed d name L s f =
      record { search = closed d name L (best_name (held sheet) (length sheet.positions) v) s f; frame = frame_looked v (written p) k; pending = at_looked.pending }

  -- it is walked on from
  pub first_open : {q : Node} {left : List (List Bool)} {e : Bound} {due : ℕ} (d : DueAt (tree_at sheet q left) e due) (L : ℕ) (s r : Search) (y : ℕ) {w'' v'' : List ℕ}
      → open_s L due e s ≡ Sum y → HeldWalked sheet left t w' w'' v v'' L q (counted_s s) r → q.rows ≡ p.rows → written p ≤ written q → (Pending t w'' v'' q → Pending t w'' v'' p)
      → Passed sheet t w w'' v v'' p L (tree_at sheet q left) (concat left) s r
  first_open {q} {left} d L s r y {w''} {v''} f z e h pe =
      record {
        search = z.search ∙ (opened d (concat left) L (best_name (held sheet) (length sheet.positions) v) s y f).on;
        frame = frame_then (omega (arith, e)) h (frame_looked v (written p) k) z.frame;
        pending = pe z.pending;
      }

-- ---- both branches

module _ {sheet : HeldSheet} {ds : List (List Bool)} {t w w' v v' : List ℕ} {p : Node} {x L : ℕ} {T : Tree} {name : List Bool} {s r : Search} (z : Passed sheet t w w' v v' p L T name s r) (q : Node) (right : List (List Bool)) {due : ℕ}
    (d : DueAt (tree_at sheet q right) (Sum x) due) (both : (st : Limited) → onward L (tree_at sheet p ds) (concat ds) st ≡ limited L (tree_at sheet q right) (concat right) (limited L T name st)) where
  -- the second node is passed by
  pub second_closed : open_s L due (Sum x) r ≡ Missing → HeldWalked sheet ds t w w' v v' L p s (reached_s L r)
  second_closed f =
      record {
        search = closed d (concat right) L (best_name (held sheet) (length sheet.positions) v') r f ∙ ap (limited L (tree_at sheet q right) (concat right)) z.search ∙ sym (both (view L sheet v s));
        frame = z.frame;
        pending = z.pending;
      }

  -- it is walked on from, from a buffer in which nothing moved that is kept
  pub second_open : (y : ℕ) (r' : Search) {w'' v₁ v'' : List ℕ} → open_s L due (Sum x) r ≡ Sum y → Frame t w' w' v' v₁ p.rows (written p) → ((i : ℕ) → i < length sheet.positions → best_in v₁ i ≡ best_in v' i)
      → HeldWalked sheet right t w' w'' v₁ v'' L q (counted_s r) r' → q.rows ≡ p.rows → written p ≤ written q → (Pending t w'' v'' q → Pending t w'' v'' p) → HeldWalked sheet ds t w w'' v v'' L p s r'
  second_open y r' {w''} {v₁} {v''} f fr same k e h pe =
      record {
        search = k.search
            ∙ ap (onward L (tree_at sheet q right) (concat right)) (best_kept L sheet v' v₁ (counted_s r) same)
            ∙ (opened d (concat right) L (best_name (held sheet) (length sheet.positions) v') r y f).on
            ∙ ap (limited L (tree_at sheet q right) (concat right)) z.search ∙ sym (both (view L sheet v s));
        frame = frame_then (omega arith) (omega arith) z.frame (frame_then (omega (arith, e)) h fr k.frame);
        pending = pe k.pending;
      }

-- ---- a node, from what is walked of it once it is settled

-- what is walked from a settled node, where settling left the incumbent's removals, is walked from the node itself
pub rests_walked : {sheet : HeldSheet} {ds : List (List Bool)} {t u w w' w'' v v' v'' : List ℕ} {p : Node} {x g n L : ℕ} {s r : Search} → Rests sheet ds t u w w' v v' p x g n → ((i : ℕ) → i < length sheet.positions → best_in v' i ≡ best_in v i)
    → HeldWalked sheet ds t w' w'' v' v'' L (settled_n p n) s r → HeldWalked sheet ds t w w'' v v'' L p s r
rests_walked {sheet} {ds} {t} {u} {w} {w'} {w''} {v} {v'} {v''} {p} {x} {g} {n} {L} {s} a same z =
    record {
      search = z.search ∙ ap (onward L (tree_at sheet p ds) (concat ds)) (best_kept L sheet v v' s same);
      frame = frame_then a.rows a.wrote a.frame z.frame;
      pending = a.after w'' v'' z.frame;
    }
