-- The two nodes below an opening that is decided next: what is asked to look at them, what is given of each where it is walked on, and what the walk of both does.
use Prim.Native.Nat.{ℕ, ◌<◌, ◌≤◌, ◌-◌, ◌+◌, ◌*◌, ◌^◌}
use mathlib.Core.Path.{◌≡◌, refl, sym, ap, subst, ◌∙◌}
use mathlib.Core.Bool.{Bool, false, cond, false≢true}
use mathlib.Core.List.{List}
use native.Mathlib.Omega.{arith}
use lib.ListN.{length, get_or, set}
use lib.Seq.{get_or-set_same, get_or-set_other}
use Rattle.branch.specs.declared.Bound.TheVariants.{Missing, Sum}
use Rattle.branch.proofs.Bounds.{sum_inj}
use Rattle.model.specs.Decisions.{concat}
use Rattle.lane_rows.specs.Layout.{lane_count_lem, top, inf, suffix_base, fee_place, lanes_in}
use Rattle.lane_rows.specs.Tables.{sum_where}
use Rattle.lane_rows.specs.Rows.{lane, sum_lanes, Looks, Recalled}
use Rattle.lane_rows.proofs.Lanes.{lane_most}
use Rattle.held_rows.specs.Held.{HeldSheet, held}
use Rattle.held_lanes.specs.Places.{most_to, classes_place, top_place, ready_place, best_place}
use Rattle.held_lanes.specs.Tables.{TermAsks, term_of}
use Rattle.held_stops.proofs.Children.{Told}
use Rattle.search_state.specs.declared.Search.{Search}
use Rattle.search_state.specs.State.{counted_s, open_s, reached_s}
use Rattle.search_state.proofs.Trees.{DueAt, where_there, opened}
use Rattle.held_nodes.specs.declared.Node.{Node}
use Rattle.held_nodes.specs.State.{best_name, no_n, yes_n, written, tree_at, At, Frame, HeldWalked}
use Rattle.held_nodes.proofs.Frames.{ready_frame, at_kept}
use Rattle.held_nodes.proofs.Given.{sums_low}
use Rattle.held_nodes.proofs.Openings.{no_blocks_lem, yes_blocks, opening_asks, no_below, no_more, no_cheap, no_due, at_no, yes_due, at_yes, both_openings}
use Rattle.held_nodes.proofs.Branches.{spent_fits, Passed, walked_as, at_looked, first_closed, first_open, second_closed, second_open}

module _ {sheet : HeldSheet} {ds : List (List Bool)} {t u w v : List ℕ} {p : Node} {x g : ℕ} (a : At sheet ds t u w v p x g) (here : p.owed ≡ false) (less : p.at < length sheet.positions) where
  -- the term of the first is looked up
  pub term_asked : TermAsks u v (p.at + 1) (p.rows - 1)
  term_asked = (opening_asks a here less).0

  -- what the first branch does
  abbrev pub Rested : ℕ → Search → List ℕ → List ℕ → Search → Type 0
  Rested L s w' v' r = Passed sheet t w w' v v' p L (tree_at sheet (no_n p p.rows) (no_blocks_lem ds)) (concat (no_blocks_lem ds)) s r

  wrote : written p ≡ p.at
  wrote = ap (λ (b : Bool). cond b (p.at - 1) p.at) here

  -- ---- no stop

  module _ (h : ℕ) (term : h ≡ most_to (term_of u v (p.at + 1) (p.rows - 1)) (get_or u classes_place 0)) where
    abbrev sum : ℕ
    sum = sum_lanes (lanes_in t) (λ (q : ℕ). lane t w suffix_base (p.at + 1) q p.rows)

    low : sum ≤ lane_count_lem * inf
    low = sums_low (λ (q : ℕ). lane t w suffix_base (p.at + 1) q p.rows) (lanes_in t) sum a.tables.narrow (λ q. lane_most t w suffix_base (p.at + 1) q p.rows) refl

    told : Told sheet (no_blocks_lem ds) h sum
    told = no_below a here less h sum term refl

    cheap : h < inf → h ≤ top * (length sheet.positions - (p.at + 1))
    cheap = no_cheap a here less h sum term refl

    owes : DueAt (tree_at sheet (no_n p p.rows) (no_blocks_lem ds)) (sum_where h sum) (p.spent + h)
    owes = no_due a here less h sum p.rows told cheap low

    -- its part sums are looked up
    pub sums_asked : Looks t w p.rows (p.at + 1) × (h < inf → x ≤ sum) × (p.spent + inf + lane_count_lem * inf < 2 ^ 64) × (x ≤ lane_count_lem * inf)
    sums_asked = ((opening_asks a here less).1, no_more a here less h sum term refl, spent_fits a, a.low)

    module _ {w' : List ℕ} (k : Recalled t w w' p.rows) (L : ℕ) (s : Search) where
      -- it is given, where it is walked on with the part sums y
      pub no_given : {q : Node} {y : ℕ} → open_s L (p.spent + h) (sum_where h sum) s ≡ Sum y → q ≡ no_n p p.rows → At sheet (no_blocks_lem ds) t u w' v q y h
      no_given {q} {y} o e =
          let b = where_there h sum y (opened owes (concat (no_blocks_lem ds)) L (best_name (held sheet) (length sheet.positions) v) s y o).sums in
          subst (λ (m : Node). At sheet (no_blocks_lem ds) t u w' v m y h) (sym e)
          (subst (λ (z : ℕ). At sheet (no_blocks_lem ds) t u w' v (no_n p p.rows) z h) b.1
          (at_no (at_looked a w' k) here less h sum told b.0 (cheap b.0) low))

      pub no_closed : open_s L (p.spent + h) (sum_where h sum) s ≡ Missing → Rested L s w' v (reached_s L s)
      no_closed o = first_closed a w' k owes (concat (no_blocks_lem ds)) L s o

      pub no_open : {q : Node} {m r : Search} {w'' v'' : List ℕ} {y : ℕ} → open_s L (p.spent + h) (sum_where h sum) s ≡ Sum y → q ≡ no_n p p.rows → m ≡ counted_s s
          → (At sheet (no_blocks_lem ds) t u w' v q y h → HeldWalked sheet (no_blocks_lem ds) t w' w'' v v'' L q m r) → Rested L s w'' v'' r
      no_open {q} {m} {r} {w''} {v''} {y} o e l f = first_open a w' k owes L s r y o (walked_as e l (f (no_given o e))) refl (omega (arith, wrote)) (λ z o. absurd (false≢true (sym here ∙ o)))

  -- ---- a stop

  module _ (fee k : ℕ) (paid : fee ≡ get_or t (fee_place p.at) 0) (term : k ≡ get_or u (top_place (p.at + 1)) 0) where
    abbrev spent : ℕ
    spent = p.spent + fee

    cost : spent ≡ p.spent + get_or t (fee_place p.at) 0
    cost = ap (λ (n : ℕ). p.spent + n) paid

    owes_stop : DueAt (tree_at sheet (yes_n p p.rows spent) (yes_blocks ds)) (Sum x) (spent + k)
    owes_stop = yes_due a here less k spent term cost p.rows

    few : (p.rows ≤ 64) × (p.at ≤ 64)
    few = let wr = (a.opening here).all in (omega (arith, wr.rows_are.few, wr.size, less, a.tables.few), omega (arith, less, a.tables.few))

    module _ {w' v' : List ℕ} {L : ℕ} {s r : Search} (z : Rested L s w' v' r) where
      -- the row of the stop is noted as not ready
      abbrev pub unready : List ℕ
      unready = set v' (ready_place p.rows) 0

      unready_kept : Frame t w' w' v' unready p.rows (written p)
      unready_kept = ready_frame t w' v' p.rows (written p) z.frame.recalled.memo few.0 (omega (arith, wrote, few))

      fresh : get_or unready (ready_place p.rows) 0 ≡ 0
      fresh = get_or-set_same v' (ready_place p.rows) 0 0 (omega (arith, z.frame.aside.size, a.aside, few))

      -- it is given after the first branch, where it is walked on
      pub stop_given : {q : Node} {y : ℕ} → open_s L (spent + k) (Sum x) r ≡ Sum y → q ≡ yes_n p p.rows spent → At sheet (yes_blocks ds) t u w' unready q y k
      stop_given {q} {y} o e =
          let b = sum_inj (Sum x) x y refl (opened owes_stop (concat (yes_blocks ds)) L (best_name (held sheet) (length sheet.positions) v') r y o).sums in
          subst (λ (m : Node). At sheet (yes_blocks ds) t u w' unready m y k) (sym e)
          (subst (λ (n : ℕ). At sheet (yes_blocks ds) t u w' unready (yes_n p p.rows spent) n k) b
          (at_yes (at_kept unready_kept (λ o. absurd (false≢true (sym here ∙ o))) (at_kept z.frame z.pending a)) here less k spent term cost fresh))

      -- what both branches do
      pub stop_closed : open_s L (spent + k) (Sum x) r ≡ Missing → HeldWalked sheet ds t w w' v v' L p s (reached_s L r)
      stop_closed o = second_closed z (yes_n p p.rows spent) (yes_blocks ds) owes_stop (both_openings a here less L p.rows spent) o

      pub stop_open : {q : Node} {m r' : Search} {w'' v'' : List ℕ} {y : ℕ} → open_s L (spent + k) (Sum x) r ≡ Sum y → q ≡ yes_n p p.rows spent → m ≡ counted_s r
          → (At sheet (yes_blocks ds) t u w' unready q y k → HeldWalked sheet (yes_blocks ds) t w' w'' unready v'' L q m r') → HeldWalked sheet ds t w w'' v v'' L p s r'
      stop_open {q} {m} {r'} {w''} {v''} {y} o e l f =
          second_open z (yes_n p p.rows spent) (yes_blocks ds) owes_stop (both_openings a here less L p.rows spent) y r' o unready_kept
          (λ i j. get_or-set_other v' (ready_place p.rows) (best_place i) 0 0 (λ z. omega (arith, z, a.tables.few, j)))
          (walked_as e l (f (stop_given o e))) refl (omega (arith, wrote)) (λ z o. absurd (false≢true (sym here ∙ o)))
