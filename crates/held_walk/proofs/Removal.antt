-- The two nodes below a stop, where a removal is decided next: what is asked to look at them, what is given of each where it is walked on, and what the walk of both does.
use Prim.Native.Nat.{ℕ, ◌<◌, ◌≤◌, ◌-◌, ◌+◌, ◌*◌, ◌^◌, max}
use mathlib.Core.Path.{◌≡◌, refl, sym, ap, subst}
use mathlib.Core.Bool.{Bool, true, false, cond}
use mathlib.Core.List.{List}
use native.Mathlib.Omega.{arith}
use lib.Bits.{bit_or}
use lib.ListN.{length, get_or}
use Rattle.branch.specs.declared.Bound.TheVariants.{Missing, Sum}
use Rattle.branch.proofs.Bounds.{sum_inj}
use Rattle.model.specs.Decisions.{concat}
use Rattle.lane_rows.specs.Layout.{lane_count_lem, top, inf, lanes_in}
use Rattle.lane_rows.specs.Tables.{sum_where}
use Rattle.lane_rows.specs.Rows.{sum_lanes, Recalled}
use Rattle.lane_rows.proofs.Memory.{recalled_none}
use Rattle.held_rows.specs.Held.{HeldSheet, held}
use Rattle.held_lanes.specs.Places.{most_to, need_lanes_place, need_class_place, need_count_place, removal_place}
use Rattle.held_lanes.specs.Tables.{TermAsks, term_of}
use Rattle.held_stops.specs.Stops.{stop_lane, LooksAtStop}
use Rattle.held_stops.proofs.Children.{Told}
use Rattle.search_state.specs.declared.Search.{Search}
use Rattle.search_state.specs.State.{counted_s, open_s, reached_s}
use Rattle.search_state.proofs.Trees.{DueAt, where_there, opened}
use Rattle.held_nodes.specs.declared.Node.{Node}
use Rattle.held_nodes.specs.State.{best_name, stays_n, out_n, written, tree_at, At, HeldWalked}
use Rattle.held_nodes.proofs.Frames.{aside_none, at_kept}
use Rattle.held_nodes.proofs.Given.{sums_low, stop_most}
use Rattle.held_nodes.proofs.Stops.{more_blocks, stop_asks, stays_shut, stays_below, stays_more, stays_cheap, stays_due, at_stays, out_due, at_out, both_removals}
use Rattle.held_nodes.proofs.Branches.{stop_here_lem, spent_fits, Passed, walked_as, at_looked, first_closed, first_open, second_closed, second_open}

module _ {sheet : HeldSheet} {ds : List (List Bool)} {t u w v : List ℕ} {p : Node} {x g : ℕ} (a : At sheet ds t u w v p x g) (next : p.next < held sheet) where
  pub owed : p.owed ≡ true
  owed = stop_here_lem a next

  -- the blocks of the nodes below
  abbrev pub more : Bool → List (List Bool)
  more b = let s = a.stop owed in more_blocks s.bs s.rs b

  -- the term of the first is looked up
  pub term_asked : TermAsks u v p.at (p.rows - 1)
  term_asked = (stop_asks a owed).0

  wrote : written p ≤ p.at - 1
  wrote = omega (arith, ap (λ (b : Bool). cond b (p.at - 1) p.at) owed)

  -- what the first branch does, with the set of the lanes that the stop is shut to then
  abbrev pub Stayed : ℕ → ℕ → Search → List ℕ → List ℕ → Search → Type 0
  Stayed set L s w' v' r = Passed sheet t w w' v v' p L (tree_at sheet (stays_n p set) (more false)) (concat (more false)) s r

  -- ---- not removed

  module _ (lanes h : ℕ) (needed : lanes ≡ get_or u (need_lanes_place p.next) 0)
      (term : h ≡ max g (most_to (λ (i : ℕ). term_of u v p.at (p.rows - 1) (get_or u (need_class_place p.next i) 0)) (get_or u (need_count_place p.next) 0))) where
    abbrev pub set : ℕ
    set = bit_or p.shut lanes

    abbrev sum : ℕ
    sum = sum_lanes (lanes_in t) (stop_lane t w p.at p.rows set)

    shut : set ≡ bit_or p.shut (get_or u (need_lanes_place p.next) 0)
    shut = ap (bit_or p.shut) needed

    low : sum ≤ lane_count_lem * inf
    low = sums_low (stop_lane t w p.at p.rows set) (lanes_in t) sum a.tables.narrow (stop_most t w p.at p.rows set) refl

    told : Told sheet (more false) h sum
    told = stays_below a owed next set h sum shut term refl

    cheap : h < inf → h ≤ top * (length sheet.positions - p.at)
    cheap = stays_cheap a owed next set h sum shut term refl

    owes : DueAt (tree_at sheet (stays_n p set) (more false)) (sum_where h sum) (p.spent + h)
    owes = stays_due a owed next set h sum told cheap low

    -- its part sums are looked up
    pub sums_asked : LooksAtStop t u w p.rows p.at × (h < inf → x ≤ sum) × (p.spent + inf + lane_count_lem * inf < 2 ^ 64) × (x ≤ lane_count_lem * inf)
    sums_asked = ((stop_asks a owed).1, stays_more a owed next set h sum shut term refl, spent_fits a, a.low)

    module _ {w' : List ℕ} (k : Recalled t w w' p.rows) (L : ℕ) (s : Search) where
      -- it is given, where it is walked on with the part sums y
      pub stays_given : {q : Node} {y : ℕ} → open_s L (p.spent + h) (sum_where h sum) s ≡ Sum y → q ≡ stays_n p set → At sheet (more false) t u w' v q y h
      unfolding at_kept at_looked
      stays_given {q} {y} o e =
          let b = where_there h sum y (opened owes (concat (more false)) L (best_name (held sheet) (length sheet.positions) v) s y o).sums in
          subst (λ (m : Node). At sheet (more false) t u w' v m y h) (sym e)
          (subst (λ (z : ℕ). At sheet (more false) t u w' v (stays_n p set) z h) b.1
          (at_stays (at_looked a w' k) owed next set h sum (stays_shut a owed next set h sum shut term refl) told b.0 (cheap b.0) low))

      pub stays_closed : open_s L (p.spent + h) (sum_where h sum) s ≡ Missing → Stayed set L s w' v (reached_s L s)
      stays_closed o = first_closed a w' k owes (concat (more false)) L s o

      pub stays_open : {q : Node} {m r : Search} {w'' v'' : List ℕ} {y : ℕ} → open_s L (p.spent + h) (sum_where h sum) s ≡ Sum y → q ≡ stays_n p set → m ≡ counted_s s
          → (At sheet (more false) t u w' v q y h → HeldWalked sheet (more false) t w' w'' v v'' L q m r) → Stayed set L s w'' v'' r
      stays_open {q} {m} {r} {w''} {v''} {y} o e l f = first_open a w' k owes L s r y o (walked_as e l (f (stays_given o e))) refl wrote (λ z o r. z refl r)

  -- ---- removed

  module _ (paid : ℕ) (removal : paid ≡ get_or u (removal_place p.next) 0) where
    abbrev spent : ℕ
    spent = p.spent + paid

    cost : spent ≡ p.spent + get_or u (removal_place p.next) 0
    cost = ap (λ (n : ℕ). p.spent + n) removal

    owes_out : DueAt (tree_at sheet (out_n p spent) (more true)) (Sum x) (spent + g)
    owes_out = out_due a owed next spent cost

    module _ (set : ℕ) {w' v' : List ℕ} {L : ℕ} {s r : Search} (z : Stayed set L s w' v' r) where
      -- it is given after the first branch, where it is walked on
      pub out_given : {q : Node} {y : ℕ} → open_s L (spent + g) (Sum x) r ≡ Sum y → q ≡ out_n p spent → At sheet (more true) t u w' v' q y g
      unfolding at_kept
      out_given {q} {y} o e =
          let b = sum_inj (Sum x) x y refl (opened owes_out (concat (more true)) L (best_name (held sheet) (length sheet.positions) v') r y o).sums in
          subst (λ (m : Node). At sheet (more true) t u w' v' m y g) (sym e)
          (subst (λ (n : ℕ). At sheet (more true) t u w' v' (out_n p spent) n g) b (at_out (at_kept z.frame z.pending a) owed next spent cost))

      -- what both branches do
      pub out_closed : open_s L (spent + g) (Sum x) r ≡ Missing → HeldWalked sheet ds t w w' v v' L p s (reached_s L r)
      out_closed o = second_closed z (out_n p spent) (more true) owes_out (both_removals a owed next L set spent) o

      pub out_open : {q : Node} {m r' : Search} {w'' v'' : List ℕ} {y : ℕ} → open_s L (spent + g) (Sum x) r ≡ Sum y → q ≡ out_n p spent → m ≡ counted_s r
          → (At sheet (more true) t u w' v' q y g → HeldWalked sheet (more true) t w' w'' v' v'' L q m r') → HeldWalked sheet ds t w w'' v v'' L p s r'
      out_open {q} {m} {r'} {w''} {v''} {y} o e l f =
          second_open z (out_n p spent) (more true) owes_out (both_removals a owed next L set spent) y r' o
          (record { recalled = recalled_none t w' p.rows z.frame.recalled.memo; aside = aside_none v' p.rows (written p) }) (λ i j. refl)
          (walked_as e l (f (out_given o e))) refl wrote (λ z o r. z refl r)
