-- E4's term at a node is the table's number for the last yes and the number of decided openings, by the law of the last yes for each part; and it tells whether the node has part sums.
use Prim.Native.Nat.{ℕ, zero, suc, ◌+◌, ◌-◌, ◌*◌, ◌<◌, ◌≤◌}
use mathlib.Core.Path.{◌≡◌, refl, sym, ap, ap₂, subst, ◌∙◌}
use mathlib.Core.Bool.{Bool, true, false, cond}
use mathlib.Core.List.{List, [], ◌∷◌, ◌++◌, append-nil}
use native.Mathlib.Omega.{arith}
use native.Mathlib.Decide.{dec_lt}
use borrow.Author.Tests.{ltb-true, ltb-false}
use lib.Dec.{ltb}
use lib.ListN.{length, get_or, take, replicate, length-take}
use lib.Seq.{get_or-take}
use Rattle.branch.specs.declared.Bound.{Bound}
use Rattle.branch.specs.declared.Bound.TheVariants.{Missing, Sum}
use Rattle.branch.specs.Lower.{add, total, larger, largest}
use Rattle.branch.specs.Search.{snoc}
use Rattle.branch.proofs.Bounds.{no_sum_lem}
use Rattle.branch.proofs.Lower.{split, largest_there}
use Rattle.model.specs.LowerBound.{least_of_lem, offers, undecided_fees}
use Rattle.model.specs.LastYes.{after_one_lem, last_yes}
use Rattle.model.proofs.LastYes.{last_alone}
use Rattle.model.proofs.Unpaid.{there_together}
use Rattle.lane_rows.specs.Layout.{top, inf, term_place, suffix_base, lanes_in}
use Rattle.lane_rows.specs.Sheet.{Column, Sheet, column_bound, part_sums, column_fee, part_columns, fee_term, no_column}
use Rattle.lane_rows.specs.Tables.{Coded, Alike, sum_where, fee_from, Tables, FeeTerms}
use Rattle.lane_rows.specs.Rows.{lane, sum_lanes, Rows}
use Rattle.lane_rows.proofs.Lanes.{total_each, node_sum}

-- the last yes is one of the decided openings
pub last_most : (p : List Bool) → last_yes p ≤ length p
unfolding last_yes
last_most [] = omega arith
last_most (x ∷ p) = go x (last_yes p) (last_most p)
  where
    go : (x : Bool) (m : ℕ) → m ≤ length p → after_one_lem x m ≤ suc (length p)
    go x (suc m) l = omega arith
    go true zero l = omega arith
    go false zero l = omega arith

-- where a sum is there, so is that of the first k
some_of : (f : Column → List Bool → Bound) (xs : List Column) (k : ℕ) (p : List Bool) (n : ℕ) → total f xs p ≡ Sum n → (m : ℕ) × (total f (take k xs) p ≡ Sum m)
some_of f xs zero p n e = (0, refl)
some_of f [] (suc k) p n e = (0, refl)
some_of f (x ∷ xs) (suc k) p n e =
    let d = split (f x p) (total f xs p) n e in
    let r = some_of f xs k p d.b d.right in
    (d.a + r.0, ap₂ add d.left r.1)

-- a part has a price exactly where it has a term, and goes with one of the same life
module _ (sheet : Sheet) (p : List Bool) where
  fee_there : (col : Column) (n : ℕ) → column_bound sheet col p ≡ Sum n → (m : ℕ) × (column_fee sheet col p ≡ Sum m)
  unfolding column_bound column_fee
  fee_there col n e = there_together col.life sheet.end col.first sheet.positions col.prices (undecided_fees sheet.fees p) p n e

  price_there : (col : Column) (n : ℕ) → column_fee sheet col p ≡ Sum n → (m : ℕ) × (column_bound sheet col p ≡ Sum m)
  unfolding column_bound column_fee
  price_there col n e = there_together col.life sheet.end col.first sheet.positions (undecided_fees sheet.fees p) col.prices p n e

  spare_there : (a b : Column) → Alike a b → (n : ℕ) → column_bound sheet a p ≡ Sum n → (m : ℕ) × (column_bound sheet b p ≡ Sum m)
  unfolding column_bound
  spare_there a b s n e =
      let r = there_together a.life sheet.end a.first sheet.positions a.prices b.prices p n e in
      (r.0, (λ i. least_of_lem (s.life i) sheet.end (s.first i) (offers sheet.positions b.prices p)) ∙ r.1)

-- the largest is there where each is
largest_each : (f : Column → List Bool → Bound) (xs : List Column) (p : List Bool) (n : ℕ) → largest f xs p ≡ Sum n → (i : ℕ) → i < length xs → (m : ℕ) × (f (get_or xs i no_column) p ≡ Sum m)
largest_each f [] p n e i h = absurd (omega arith)
largest_each f (x ∷ xs) p n e i h = go (f x p) (largest f xs p) refl refl (λ b k j g. largest_each f xs p b k j g) i h
  where
    go : (a b : Bound) → f x p ≡ a → largest f xs p ≡ b → ((b : ℕ) → largest f xs p ≡ Sum b → (j : ℕ) → j < length xs → (m : ℕ) × (f (get_or xs j no_column) p ≡ Sum m))
        → (i : ℕ) → i < length (x ∷ xs) → (m : ℕ) × (f (get_or (x ∷ xs) i no_column) p ≡ Sum m)
    go Missing b g k r i h = absurd (no_sum_lem Missing n refl (sym (ap₂ larger g k) ∙ e))
    go (Sum a) Missing g k r i h = absurd (no_sum_lem Missing n refl (sym (ap₂ larger g k) ∙ e))
    go (Sum a) (Sum b) g k r zero h = (a, g)
    go (Sum a) (Sum b) g k r (suc i) h = r b k i (omega arith)

largest_same : (f g : Column → List Bool → Bound) (xs : List Column) (p q : List Bool) → ((i : ℕ) → i < length xs → f (get_or xs i no_column) p ≡ g (get_or xs i no_column) q) → largest f xs p ≡ largest g xs q
largest_same f g [] p q e = refl
largest_same f g (x ∷ xs) p q e = ap₂ larger (e 0 (omega arith)) (largest_same f g xs p q (λ i h. e (suc i) (omega arith)))

-- each part's term at the node d is what the table has for the mark m
abbrev pub ByMark : Sheet → List Bool → ℕ → Type 0
ByMark sheet d m = (i : ℕ) → i < sheet.parts → column_fee sheet (get_or sheet.columns i no_column) d ≡ fee_from sheet (length d) m (get_or sheet.columns i no_column) []

-- a column that is a part's is the sheet's at its place
part_at_lem : (sheet : Sheet) (i : ℕ) → i < length (part_columns sheet) → (i < sheet.parts) × (get_or (part_columns sheet) i no_column ≡ get_or sheet.columns i no_column)
part_at_lem sheet i h = let g : i < sheet.parts = omega (arith, length-take sheet.parts sheet.columns) in (g, get_or-take sheet.parts sheet.columns i no_column g)

-- at the first node each part's term is the table's for the mark of the first life
pub first_by : (sheet : Sheet) → ByMark sheet [] 0
unfolding column_fee undecided_fees
first_by sheet i h = refl

module _ (sheet : Sheet) (t : List ℕ) (ta : Tables sheet t) where
  -- at a node where each part can be kept, and after any number of no's below it, it is so for the last yes
  no_by : (p : List Bool) (k x : ℕ) → length p + k ≤ length sheet.positions → part_sums sheet p ≡ Sum x → ByMark sheet (p ++ replicate k false) (last_yes p)
  unfolding column_bound column_fee
  no_by p k x l e i h =
      let g : i < lanes_in t = omega (arith, ta.real) in
      let col = get_or sheet.columns i no_column in
      let s = total_each (column_bound sheet) sheet.columns p x e i (omega (arith, ta.wide)) in
      last_alone col.life sheet.end col.first sheet.positions sheet.fees col.prices p k s.0 (ta.climbs i g) l s.1

  -- below a node that has part sums, each part's term at the no child is the table's for the node's last yes
  pub below_by : (p : List Bool) (x : ℕ) → length p < length sheet.positions → part_sums sheet p ≡ Sum x → ByMark sheet (snoc p false) (last_yes p)
  below_by p x l e = no_by p 1 x (omega arith) e

  -- at a node that has part sums, each part's term is the table's for its last yes
  pub own_by : (p : List Bool) (x : ℕ) → length p ≤ length sheet.positions → part_sums sheet p ≡ Sum x → ByMark sheet p (last_yes p)
  own_by p x l e = subst (λ (d : List Bool). ByMark sheet d (last_yes p)) (append-nil p) (no_by p 0 x (omega arith) e)

  -- ---- a number that stands for a node's term

  module _ (d : List Bool) (here : ℕ) (coded : Coded (top * (length sheet.positions - length d)) here (fee_term sheet d)) where
    abbrev most : ℕ
    most = top * (length sheet.positions - length d)

    -- it is there where the part sums are
    pub node_term : (x : ℕ) → part_sums sheet d ≡ Sum x → (fee_term sheet d ≡ Sum here) × (here ≤ most)
    node_term x e =
        let some = some_of (column_bound sheet) sheet.columns sheet.parts d x e in
        let k = largest_there (column_bound sheet) (column_fee sheet) d (fee_there sheet d) (part_columns sheet) some.0 some.1 in
        let c : Coded most here (Sum k.0) = subst (Coded most here) k.1 coded in
        (k.1 ∙ sym (ap Sum c.0), omega (arith, c.0, c.1))

    -- and where it is there, each part has a price
    part_there : here < inf → (i : ℕ) → i < sheet.parts → (n : ℕ) × (column_bound sheet (get_or sheet.columns i no_column) d ≡ Sum n)
    part_there h i g = go (fee_term sheet d) refl coded
      where
        go : (b : Bound) → fee_term sheet d ≡ b → Coded most here b → (n : ℕ) × (column_bound sheet (get_or sheet.columns i no_column) d ≡ Sum n)
        go Missing e c = absurd (omega (arith, c, h))
        go (Sum y) e c =
            let k : i < length (part_columns sheet) = omega (arith, length-take sheet.parts sheet.columns, ta.real, ta.wide) in
            let f = largest_each (column_fee sheet) (part_columns sheet) d y e i k in
            price_there sheet d (get_or sheet.columns i no_column) f.0 (ap (λ (col : Column). column_fee sheet col d) (sym (part_at_lem sheet i k).1) ∙ f.1)

    lane_there : here < inf → (q : ℕ) → q < lanes_in t → (n : ℕ) × (column_bound sheet (get_or sheet.columns q no_column) d ≡ Sum n)
    lane_there h q g = go (dec_lt q sheet.parts)
      where
        go : Dec (q < sheet.parts) → (n : ℕ) × (column_bound sheet (get_or sheet.columns q no_column) d ≡ Sum n)
        go (yes a) = part_there h q a
        go (no a) =
            let b = part_there h 0 ta.begun in
            spare_there sheet d (get_or sheet.columns 0 no_column) (get_or sheet.columns q no_column) (ta.spare q (omega (arith, a)) g) b.0 b.1

    -- so the part sums are Missing exactly where it is, and else the lanes' sum
    pub sums_by : length d ≤ length sheet.positions → (w : List ℕ) (n : ℕ) → Rows sheet w d n → sum_where here (sum_lanes (lanes_in t) (λ (q : ℕ). lane t w suffix_base (length d) q n)) ≡ part_sums sheet d
    sums_by l w n ro = go (ltb here inf) refl
      where
        none : (b : Bound) → part_sums sheet d ≡ b → inf ≤ here → Missing ≡ b
        none Missing e h = refl
        none (Sum x) e h = absurd (omega (arith, h, (node_term x e).1, ta.few))

        go : (b : Bool) → ltb here inf ≡ b → cond b (Sum (sum_lanes (lanes_in t) (λ (q : ℕ). lane t w suffix_base (length d) q n))) Missing ≡ part_sums sheet d
        go true e = sym (node_sum sheet t w d n ta ro l (lane_there (ltb-true here inf e)))
        go false e = none (part_sums sheet d) refl (ltb-false here inf e)

-- the table's number for the mark m stands for the term of a node where each part's is that
pub term_coded : (sheet : Sheet) (t : List ℕ) → FeeTerms sheet t → (d : List Bool) (m : ℕ) → length d ≤ length sheet.positions → m ≤ length d → ByMark sheet d m
    → Coded (top * (length sheet.positions - length d)) (get_or t (term_place (length d) m) 0) (fee_term sheet d)
term_coded sheet t te d m l in_reach by =
    subst (Coded (top * (length sheet.positions - length d)) (get_or t (term_place (length d) m) 0))
    (sym (largest_same (column_fee sheet) (fee_from sheet (length d) m) (part_columns sheet) d []
    (λ i h. let p = part_at_lem sheet i h in ap (λ (col : Column). column_fee sheet col d) p.1 ∙ by i p.0 ∙ ap (λ (col : Column). fee_from sheet (length d) m col []) (sym p.1))))
    (te.right (length d) m in_reach l)
