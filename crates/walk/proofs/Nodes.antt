-- From a node to the nodes below it: what the walk is given at each, and how the code's numbers are the search's.
use Prim.Native.Nat.{ℕ, zero, suc, ◌+◌, ◌-◌, ◌*◌, ◌<◌, ◌≤◌}
use mathlib.Core.Path.{◌≡◌, refl, sym, ap, ap₂, subst, ◌∙◌}
use mathlib.Core.Bool.{Bool, true, false, cond, false≢true}
use mathlib.Core.List.{List, [], ◌∷◌}
use native.Mathlib.Omega.{arith}
use native.Mathlib.Nat.{add-zero}
use borrow.Author.Tests.{lt-ltb}
use lib.Dec.{ltb}
use lib.ListN.{length, get_or, length-append}
use Rattle.branch.specs.declared.Bound.{Bound}
use Rattle.branch.specs.declared.Bound.TheVariants.{Missing, Sum}
use Rattle.branch.specs.Lower.{add, total}
use Rattle.branch.specs.Search.{none, snoc, Limited, with_best, onward}
use Rattle.branch.specs.Label.{tree_of, limited_from, open_from}
use Rattle.branch.proofs.Bounds.{no_sum_lem, sum_inj}
use Rattle.branch.proofs.Steps.{bound_at, open_full, open-both}
use Rattle.model.specs.Model.{sum_at}
use Rattle.model.specs.LastYes.{last_yes}
use Rattle.model.proofs.Fees.{sum_snoc}
use Rattle.model.proofs.LastYes.{last_no, last_yes_lem}
use Rattle.search_state.specs.declared.Search.{Search}
use Rattle.walk.specs.declared.Node.{Node}
use Rattle.lane_rows.specs.Layout.{top, dear, inf, suffix_base, reach_base, price_place, mark_place, fee_place, lanes_in, term_place}
use Rattle.lane_rows.specs.Sheet.{Column, Sheet, column_bound, part_sums, fee_term, sheet_bound}
use Rattle.lane_rows.specs.Tables.{sum_where, Tables, FeeTerms}
use Rattle.lane_rows.specs.Rows.{lane, sum_lanes, FirstRow, Rows, Stack, Memo, Looks, Recalled, term_at, sums_at, Put, Kept, next_row, Owing, Settled}
use Rattle.search_state.specs.State.{bits, view, no_cost, counted_s, kept_s, reached_s, open_s}
use Rattle.walk.specs.State.{decided, no_n, yes_n, Pending, ready, owed, At}
use Rattle.lane_rows.proofs.Front.{column_yes}
use Rattle.lane_rows.proofs.Terms.{last_most, first_by, below_by, own_by, term_coded, node_term, sums_by}
use Rattle.lane_rows.proofs.Lanes.{node_there, node_rises, rows_no, rows_yes, rows_kept, rows_root, first_sums_lem, kept_refl, stack_no, stack_yes}
use Rattle.lane_rows.proofs.Memory.{memo_root}
use Rattle.search_state.proofs.Trees.{DueAt, closed, opened}
use Rattle.search_state.proofs.States.{bits-length, bits_no, bits_yes, mask_next, sums_low}

-- ---- fees and sums

fees_none : (fs : List ℕ) → sum_at fs [] ≡ 0
unfolding sum_at
fees_none fs = refl

total_same : (f : Column → List Bool → Bound) (xs : List Column) (p q : List Bool) → ((x : Column) → f x p ≡ f x q) → total f xs p ≡ total f xs q
total_same f [] p q e = refl
total_same f (x ∷ xs) p q e = ap₂ add (e x) (total_same f xs p q e)

-- so a yes child has its parent's part sums
yes_sums : (sheet : Sheet) (p : List Bool) → part_sums sheet p ≡ part_sums sheet (snoc p true)
yes_sums sheet p = total_same (column_bound sheet) sheet.columns p (snoc p true) (λ col. column_yes sheet col p)

-- the sum where a number is a price
where_sum : (n s x : ℕ) → sum_where n s ≡ Sum x → s ≡ x
where_sum n s x e = go (ltb n inf) e
  where
    go : (t : Bool) → cond t (Sum s) Missing ≡ Sum x → s ≡ x
    go true g = sum_inj (Sum s) s x refl g
    go false g = absurd (no_sum_lem Missing x refl g)

-- ---- a node

-- its fees and its term, with which its part sums e make its bound
pub record Due (sheet : Sheet) (p : Node) (e : Bound) (due : ℕ) : Type 0 where
  -- where the part sums are Missing so is the bound
  pub none : e ≡ Missing → sheet_bound sheet (decided p) ≡ Missing
  -- where the part sums are there the bound is what is due and these
  pub some : (x : ℕ) → e ≡ Sum x → sheet_bound sheet (decided p) ≡ Sum (due + x)
  -- what is due and the part sums stay below the cost that stands for no plan
  pub fits : (x : ℕ) → e ≡ Sum x → due + x < no_cost

module _ (sheet : Sheet) (t w : List ℕ) (p : Node) (stop : Bool) (e : Bound) (a : At sheet t w p stop e) where
  -- the node's bound, by its part sums and its term
  bound_is : (b : Bound) → e ≡ b → sheet_bound sheet (decided p) ≡ add (add (Sum p.spent) b) (fee_term sheet (decided p))
  unfolding sheet_bound
  bound_is b f = ap₂ (λ (n : ℕ) (y : Bound). add (add (Sum n) y) (fee_term sheet (decided p))) (sym a.spent) (sym a.sums ∙ f)

  -- its term: the table's number for the last yes, m
  termed : (m x : ℕ) → last_yes (decided p) ≡ m → e ≡ Sum x → (fee_term sheet (decided p) ≡ Sum (get_or t (term_place p.at m) 0)) × (get_or t (term_place p.at m) 0 ≤ top * (length sheet.positions - p.at))
  termed m x f g =
      let z = bits-length p.at p.mask in
      let l : length (decided p) ≤ length sheet.positions = omega (arith, z, a.inside) in
      let there : part_sums sheet (decided p) ≡ Sum x = sym a.sums ∙ g in
      subst (λ (i : ℕ). (fee_term sheet (decided p) ≡ Sum (get_or t (term_place p.at i) 0)) × (get_or t (term_place p.at i) 0 ≤ top * (length sheet.positions - p.at))) f
      (subst (λ (j : ℕ). (fee_term sheet (decided p) ≡ Sum (get_or t (term_place j (last_yes (decided p))) 0)) × (get_or t (term_place j (last_yes (decided p))) 0 ≤ top * (length sheet.positions - j))) z
      (node_term sheet t a.tables (decided p) (get_or t (term_place (length (decided p)) (last_yes (decided p))) 0)
      (term_coded sheet t a.terms (decided p) (last_yes (decided p)) l (last_most (decided p)) (own_by sheet t a.tables (decided p) x l there)) x there))

  -- a full node has no term
  pub bound_full : (x : ℕ) → e ≡ Sum x → p.at ≡ length sheet.positions → sheet_bound sheet (decided p) ≡ Sum (p.spent + x)
  bound_full x f h =
      let d = termed (last_yes (decided p)) x refl f in
      bound_is (Sum x) f ∙ ap (add (Sum (p.spent + x))) d.0 ∙ ap Sum (omega (arith, d.1))

  -- a node's fees and its term
  pub due_at : (m : ℕ) → last_yes (decided p) ≡ m → Due sheet p e (p.spent + get_or t (term_place p.at m) 0)
  due_at m f =
      record {
        none = λ g. bound_is Missing g;
        some = λ x g. bound_is (Sum x) g ∙ ap (add (Sum (p.spent + x))) (termed m x f g).0 ∙ ap Sum (omega arith);
        fits = λ x g. omega (arith, (termed m x f g).1, a.low x g, a.poor, a.inside, a.tables.few);
      }

  -- a stop whose row is owed has an opening before it, and its row may be written
  pub owing : stop ≡ true → (0 < p.at) × Owing (lanes_in t) t w (p.at - 1) p.rows
  owing s = go stop a.rows s
    where
      go : (b : Bool) → Pending sheet w (decided p) p.rows b → b ≡ true → (0 < p.at) × Owing (lanes_in t) t w (p.at - 1) p.rows
      go false (ready r) f = absurd (false≢true f)
      go true (owed q f r) g =
          let l : length q + 1 ≡ p.at = sym (simp length-append at (ap length f)) ∙ bits-length p.at p.mask in
          let z : length q ≡ p.at - 1 = omega arith in
          let h : length q < length sheet.positions = omega (arith, a.inside) in
          let ta = a.tables in (
            omega arith,
            record {
              stack = subst (λ (j : ℕ). Stack (lanes_in t) t w reach_base j p.rows) z (stack_yes sheet t w q p.rows ta r h);
              size = ta.size;
              near = omega (arith, ta.few, a.inside);
              few = omega (arith, r.seen.few, ta.few, a.inside);
              cheap = λ i m. subst (λ (j : ℕ). get_or t (price_place j i) 0 ≤ dear) z (omega (arith, (ta.lanes i m).price (length q) h, (ta.lanes i m).cheap (length q)));
            },
          )

  -- the node's rows after it is settled
  pub settled : (w' : List ℕ) (r : ℕ) → Settled t w w' p.at p.rows r stop → Rows sheet w' (decided p) r × Kept w w' p.rows × (p.rows ≤ r) × Memo t w' r
  settled w' r s = go stop a.rows s
    where
      go : (b : Bool) → Pending sheet w (decided p) p.rows b → Settled t w w' p.at p.rows r b → Rows sheet w' (decided p) r × Kept w w' p.rows × (p.rows ≤ r) × Memo t w' r
      go false (ready ro) s =
          let f = s.no refl in (
            subst (λ (l : List ℕ). Rows sheet l (decided p) r) (sym f.1) (subst (Rows sheet w (decided p)) (sym f.0) ro),
            subst (λ (l : List ℕ). Kept w l p.rows) (sym f.1) (kept_refl w p.rows),
            omega (arith, f.0),
            s.memo a.memo,
          )
      go true (owed q f ro) s =
          let g = s.yes refl in
          let l : length q + 1 ≡ p.at = sym (simp length-append at (ap length f)) ∙ bits-length p.at p.mask in
          let z : p.at - 1 ≡ length q = omega arith in
          let u : Put (lanes_in t) (next_row t w (length q) p.rows) w w' p.rows (length q + 1) = subst (λ (j : ℕ). Put (lanes_in t) (next_row t w j p.rows) w w' p.rows (j + 1)) z g.1 in (
            subst (λ (d : List Bool). Rows sheet w' d r) (sym f) (subst (Rows sheet w' (snoc q true)) (sym g.0) (rows_yes sheet t w q p.rows a.tables ro (omega (arith, a.inside)) w' u)),
            u.kept,
            omega (arith, g.0),
            s.memo a.memo,
          )

-- ---- the two children. ro: the node's rows as they stand after it is settled

module _ (sheet : Sheet) (t w w' : List ℕ) (p : Node) (stop : Bool) (e : Bound) (r x : ℕ) (a : At sheet t w p stop e) (f : e ≡ Sum x) (ro : Rows sheet w' (decided p) r) (h : p.at < length sheet.positions) where
  size : length (decided p) ≡ p.at
  size = bits-length p.at p.mask

  less : length (decided p) < length sheet.positions
  less = omega (arith, size)

  there : part_sums sheet (decided p) ≡ Sum x
  there = sym a.sums ∙ f

  -- what a look at the no asks: its part sums are at least x
  pub sums_asks : Memo t w' r → Looks t w' r (p.at + 1) × (x ≤ sum_lanes (lanes_in t) (λ (q : ℕ). lane t w' suffix_base (p.at + 1) q r))
  sums_asks me =
      let y = node_there sheet t w' (decided p) r a.tables ro (omega (arith, less)) x there in (
        record { memo = me; stack = subst (λ (n : ℕ). Stack (lanes_in t) t w' suffix_base (n + 1) r) size (stack_no sheet t w' (decided p) r a.tables ro less); size = a.tables.size; some = ro.seen.some },
        subst (λ (n : ℕ). x ≤ sum_lanes (lanes_in t) (λ (q : ℕ). lane t w' suffix_base (n + 1) q r)) size (omega (arith, y, node_rises sheet t w' (decided p) r a.tables ro (omega (arith, less)) less)),
      )

  -- the last yes of each
  pub last_no_is : last_yes (decided (no_n p r)) ≡ get_or w' (mark_place (r - 1)) 0
  last_no_is = ap last_yes (bits_no p.at p.mask) ∙ last_no (decided p) ∙ sym ro.last

  -- the last yes of a stop's node is the opening just decided
  pub last_yes_is : (fee : ℕ) → last_yes (decided (yes_n p r fee)) ≡ p.at + 1
  last_yes_is fee = ap last_yes (bits_yes p.at p.mask) ∙ last_yes_lem (decided p) ∙ omega (arith, size)

  -- the no's part sums, by its term
  no_sums_lem : sums_at t w' (p.at + 1) r ≡ part_sums sheet (snoc (decided p) false)
  no_sums_lem =
      let d = snoc (decided p) false in
      let n : p.at + 1 ≡ length d = sym (ap length (sym (bits_no p.at p.mask)) ∙ bits-length (p.at + 1) (p.mask * 2)) in
      let m = last_yes (decided p) in
      let l : length d ≤ length sheet.positions = omega (arith, n) in
      (λ i. sum_where (get_or t (term_place (n i) (ro.last i)) 0) (sum_lanes (lanes_in t) (λ (q : ℕ). lane t w' suffix_base (n i) q r)))
      ∙ sums_by sheet t a.tables d (get_or t (term_place (length d) m) 0) (term_coded sheet t a.terms d m l (omega (arith, n, size, last_most (decided p))) (below_by sheet t a.tables (decided p) x less there)) l w' r
      (rows_no sheet t w' (decided p) r a.tables ro less)

  -- all that the walk is given at the no child, its part sums read from the rows of its parent
  pub at_no : (w'' : List ℕ) (b : Bound) → Recalled t w' w'' r → b ≡ sums_at t w' (p.at + 1) r → At sheet t w'' (no_n p r) false b
  at_no w'' b k g =
      let d = bits_no p.at p.mask in
      let rn = rows_kept sheet w' w'' (snoc (decided p) false) r (rows_no sheet t w' (decided p) r a.tables ro less) k.kept in
      let fee : length sheet.fees ≡ length sheet.positions = a.tables.paid in
      record {
        tables = a.tables;
        terms = a.terms;
        inside = omega arith;
        mask = omega (arith, mask_next p.at p.mask a.mask);
        spent = a.spent ∙ sym (ap (sum_at sheet.fees) d ∙ sum_snoc sheet.fees (decided p) false (omega (arith, less)) ∙ add-zero (sum_at sheet.fees (decided p)));
        poor = omega (arith, a.poor);
        sums = g ∙ no_sums_lem ∙ ap (part_sums sheet) (sym d);
        low = λ y u.
            let s = sum_lanes (lanes_in t) (λ (q : ℕ). lane t w' suffix_base (p.at + 1) q r) in
            let z = where_sum (term_at t w' (p.at + 1) r) s y (sym g ∙ u) in
            sums_low t w' (p.at + 1) r y a.tables.narrow z;
        memo = k.memo;
        rows = ready (subst (λ (l : List Bool). Rows sheet w'' l r) (sym d) rn);
      }

  -- all that the walk is given at the yes child: part sums as before, its row still owed
  pub at_yes : (w'' : List ℕ) (fee : ℕ) → Recalled t w' w'' r → fee ≡ get_or t (fee_place p.at) 0 → At sheet t w'' (yes_n p r fee) true (Sum x)
  at_yes w'' fee k g =
      let d = bits_yes p.at p.mask in
      let paid : length sheet.fees ≡ length sheet.positions = a.tables.paid in
      let cost : fee ≡ get_or sheet.fees (length (decided p)) 0 = g ∙ a.tables.fees p.at h ∙ ap (λ (j : ℕ). get_or sheet.fees j 0) (sym size) in
      record {
        tables = a.tables;
        terms = a.terms;
        inside = omega arith;
        mask = mask_next p.at p.mask a.mask;
        spent = ap₂ (λ (m n : ℕ). m + n) a.spent cost ∙ sym (ap (sum_at sheet.fees) d ∙ sum_snoc sheet.fees (decided p) true (omega (arith, less)));
        poor = omega (arith, a.poor, cost, a.tables.fair (length (decided p)));
        sums = sym f ∙ a.sums ∙ yes_sums sheet (decided p) ∙ ap (part_sums sheet) (sym d);
        low = λ y q. a.low y (f ∙ q);
        memo = k.memo;
        rows = owed (decided p) d (rows_kept sheet w' w'' (decided p) r ro k.kept);
      }

-- they make its bound
pub due_bound : (sheet : Sheet) (p : Node) (e : Bound) (due : ℕ) → Due sheet p e due → add (Sum due) e ≡ sheet_bound sheet (decided p)
due_bound sheet p Missing due d = sym (d.none refl)
due_bound sheet p (Sum x) due d = sym (d.some x refl)

-- a node's fees and part sums are less than no plan's cost
pub fits : (sheet : Sheet) (t w : List ℕ) (p : Node) (stop : Bool) (x : ℕ) → At sheet t w p stop (Sum x) → p.spent + x < no_cost
fits sheet t w p stop x h = omega (arith, h.low x refl, h.poor, h.inside, h.tables.few)

-- ---- the state

-- a full node kept
pub full_walked : (est : List Bool → Bound) (L n e : ℕ) (p : Node) (s : Search) → est (decided p) ≡ Sum e → e < no_cost → p.at ≡ n
    → view L n (kept_s s e p.mask) ≡ open_from est L (n - p.at) (decided p) (view L n s)
full_walked est L n e p s f h q =
    rw (sym q, lt-ltb e no_cost h) (sym (open_full est L (p.at - p.at) (decided p) (view L p.at s) (omega arith) ∙ ap (λ (b : Bound). with_best b (decided p) (view L p.at s)) f))

-- both children walked, from what the two calls say
pub both_walked : (est : List Bool → Bound) (L n : ℕ) (p : Node) (r fee : ℕ) (s r₁ r₂ : Limited) → p.at < n
    → r₁ ≡ limited_from est L (n - (p.at + 1)) (decided (no_n p r)) s
    → r₂ ≡ limited_from est L (n - (p.at + 1)) (decided (yes_n p r fee)) r₁
    → r₂ ≡ open_from est L (n - p.at) (decided p) s
both_walked est L n p r fee s r₁ r₂ h f₁ f₂ =
    f₂ ∙ ap (λ (d : List Bool). limited_from est L (n - (p.at + 1)) d r₁) (bits_yes p.at p.mask)
    ∙ ap (limited_from est L (n - (p.at + 1)) (snoc (decided p) true)) (f₁ ∙ ap (λ (d : List Bool). limited_from est L (n - (p.at + 1)) d s) (bits_no p.at p.mask))
    ∙ sym (open-both est L (n - p.at) (n - (p.at + 1)) (decided p) s (omega arith))

-- ---- a node that is reached, with what `open` says of it

tree_bound : (est : List Bool → Bound) (k : ℕ) (p : List Bool) → bound_at (tree_of est k p) ≡ est p
unfolding tree_of
tree_bound est zero p = refl
tree_bound est (suc k) p = refl

open-onward : (est : List Bool → Bound) (L k : ℕ) (p : List Bool) (st : Limited) → open_from est L k p st ≡ onward L (tree_of est k p) p st
unfolding tree_of
open-onward est L zero p st = refl
open-onward est L (suc k) p st = refl

module _ (sheet : Sheet) (p : Node) (e : Bound) (due : ℕ) (d : Due sheet p e due) (L n k : ℕ) (s : Search) where
  abbrev walked : Limited
  walked = limited_from (sheet_bound sheet) L k (decided p) (view L n s)

  owes : DueAt (tree_of (sheet_bound sheet) k (decided p)) e due
  owes = let b = tree_bound (sheet_bound sheet) k (decided p) in record { none = λ f. b ∙ d.none f; some = λ x f. b ∙ d.some x f; fits = d.fits }

  -- it is not walked on
  pub closed_walked : open_s L due e s ≡ Missing → view L n (reached_s L s) ≡ walked
  closed_walked f = closed owes (decided p) L (bits n) s f

  -- it is walked on
  pub record Opened (y : ℕ) : Type 0 where
    -- the part sums of a node that is walked on are there, and are y
    pub sums : e ≡ Sum y
    -- a node is walked on only where the limit is not reached yet
    pub within : s.count < L
    -- the walk on from the node, once it is counted, is its whole walk
    pub on : open_from (sheet_bound sheet) L k (decided p) (view L n (counted_s s)) ≡ walked

  pub open-walked : (y : ℕ) → open_s L due e s ≡ Sum y → Opened y
  open-walked y f =
      let r = opened owes (decided p) L (bits n) s y f in
      record { sums = r.sums; within = r.within; on = open-onward (sheet_bound sheet) L k (decided p) (view L n (counted_s s)) ∙ r.on }

-- ---- the first node

module _ (sheet : Sheet) (t w : List ℕ) (ta : Tables sheet t) (te : FeeTerms sheet t) (fr : FirstRow w) where
  -- all that the walk is given at the first node, with the part sums of the tables' first numbers
  pub root_given : (b : Bound) → b ≡ sum_where (get_or t (term_place 0 0) 0) (sum_lanes (lanes_in t) (λ (q : ℕ). get_or t q 0)) → At sheet t w (record { at = 0; rows = 1; spent = 0; mask = 0 }) false b
  unfolding bits
  root_given b g =
      let ro = rows_root sheet w (omega (arith, ta.wide, ta.narrow)) fr in
      let s = first_sums_lem sheet t ta w fr in
      record {
        tables = ta;
        terms = te;
        inside = omega arith;
        mask = omega arith;
        spent = sym (fees_free sheet.fees);
        poor = omega arith;
        sums = g ∙ ap (sum_where (get_or t (term_place 0 0) 0)) s ∙ sums_by sheet t ta [] (get_or t (term_place 0 0) 0) (term_coded sheet t te [] 0 (omega arith) (omega arith) (first_by sheet)) (omega arith) w 1 ro;
        low = λ y k. sums_low t w 0 1 y ta.narrow (sym s ∙ where_sum (get_or t (term_place 0 0) 0) (sum_lanes (lanes_in t) (λ (q : ℕ). get_or t q 0)) y (sym g ∙ k));
        memo = memo_root t w fr;
        rows = ready ro;
      }
    where
      fees_free : (fs : List ℕ) → sum_at fs [] ≡ 0
      fees_free fs = fees_none fs
