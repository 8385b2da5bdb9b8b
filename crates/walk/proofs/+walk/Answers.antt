-- `walk` walks on from its node, and keeps the rows that were there: by recursion on the undecided openings, for each sheet whose tables it may be given.
use Prim.Native.Nat.{ℕ, ◌<◌, ◌≤◌, ◌-◌, ◌+◌, ◌^◌}
use mathlib.Core.Path.{◌≡◌, refl, sym, ap, subst, ◌∙◌}
use mathlib.Core.Bool.{true, false}
use mathlib.Core.List.{List}
use native.Mathlib.Omega.{arith}
use lib.ListN.{length, get_or}
use Rattle.branch.specs.Label.{limited_from, open_from}
use Rattle.model.specs.Limits.{most_openings}
use Rattle.branch.specs.declared.Bound.{Bound}
use Rattle.branch.specs.declared.Bound.TheVariants.{Missing, Sum}
use Rattle.branch.proofs.Bounds.{sum_inj}
use Rattle.search_state.specs.declared.Search.{Search}
use Rattle.walk.specs.declared.Node.{Node}
use Rattle.lane_rows.specs.Layout.{mark_place, fee_place, term_place}
use Rattle.lane_rows.specs.Sheet.{Sheet, sheet_bound}
use Rattle.lane_rows.specs.Rows.{Kept, Rows, Memo, Recalled, term_at, sums_at}
use Rattle.walk.specs.State.{decided, no_n, yes_n, At}
use Rattle.search_state.specs.State.{view, no_cost, open_s, counted_s, reached_s}
use Rattle.lane_rows.proofs.Memory.{recalled_none, recalled_then}
use Rattle.walk.proofs.Nodes.{Due, due_at, bound_full, owing, settled, sums_asks, last_no_is, last_yes_is, at_no, at_yes, fits, full_walked, both_walked, Opened, closed_walked, open-walked}
use Rattle.search_state.proofs.States.{mask_fits}
use Rattle.walk.proofs.+walk.Goals as goal
use Rattle.walk.proofs.+walk.Goals.{in-Sum, in-Missing, After-open_rows, After-settle-rows, Else-p-cell, Joined-open_rows, Start}

-- the sheet that is asked for, and what is given of it
abbrev sheet_of_lem : (t : ℕ) → Start t → Sheet
sheet_of_lem t c = c.requires.0.0

abbrev Given : (t : ℕ) → Start t → Sheet → Type 0
Given t c sheet = let a = c.args in At sheet a.t.now a.w.now a.p a.stop (Sum a.x)

abbrev given : (t : ℕ) (c : Start t) → Given t c (sheet_of_lem t c)
given t c = c.requires.0.1

-- one node more than the limit can be counted
limits : (t : ℕ) (c : Start t) → c.args.limit + 1 < 2 ^ 64
limits t c = c.requires.1

pub cell-requires : goal.cell-requires
cell-requires t c = omega arith

pub overflow_add-p : goal.overflow_add-p
overflow_add-p t c = let a = c.args in
    omega (arith, fits (sheet_of_lem t (goal.at.overflow_add-p t c).Start) a.t.now a.w.now a.p a.stop a.x (given t (goal.at.overflow_add-p t c).Start))

pub returns-then-p-cell : goal.returns-then-p-cell
returns-then-p-cell t c = let a = c.args in record {
  walked = λ sheet h.
      let n = length sheet.positions in
      let all = c.if-p-cell.true ∙ c.cell.ensures ∙ h.tables.count in
      ap (view a.limit n) c.kept.ensures
      ∙ full_walked (sheet_bound sheet) a.limit n (a.p.spent + a.x) a.p a.s (bound_full sheet a.t.now a.w.now a.p a.stop (Sum a.x) h a.x refl all) (fits sheet a.t.now a.w.now a.p a.stop a.x h) all;
  frame = recalled_none a.t.now a.w.now a.p.rows (given t (goal.at.returns-then-p-cell t c).Start).memo;
}

pub settle-rows-requires : goal.settle-rows-requires
settle-rows-requires t c = let a = c.args in
    owing (sheet_of_lem t (goal.at.settle-rows-requires t c).Start) a.t.now a.w.now a.p a.stop (Sum a.x) (given t (goal.at.settle-rows-requires t c).Start)

-- the node's rows once it is settled, and that it has an undecided opening
stands : (t : ℕ) (c : After-settle-rows t) (sheet : Sheet)
    → let a = c.args in
    Given t c.before.before.before.before.before.before sheet
    → Rows sheet c.settle-rows.new.w (decided a.p) c.settle-rows.result × Kept a.w.now c.settle-rows.new.w a.p.rows × (a.p.rows ≤ c.settle-rows.result) × Memo a.t.now c.settle-rows.new.w c.settle-rows.result
stands t c sheet h =
    let a = c.args in
    settled sheet a.t.now a.w.now a.p a.stop (Sum a.x) h c.settle-rows.new.w c.settle-rows.result c.settle-rows.ensures

under : (t : ℕ) (c : Else-p-cell t) (sheet : Sheet) → Given t c.before.before.before sheet → c.args.p.at < length sheet.positions
under t c sheet h = omega (arith, h.inside, h.tables.count, c.cell.ensures, c.if-p-cell.false)

-- at most 63 openings are decided
near : (t : ℕ) (c : Else-p-cell t) → c.args.p.at < most_openings
near t c = let h = given t c.before.before.before in omega (arith, under t c (sheet_of_lem t c.before.before.before) h, h.tables.few)

pub overflow_add-j : goal.overflow_add-j
overflow_add-j t c = omega (arith, near t (goal.at.overflow_add-j t c).Else-p-cell)

-- ---- the no child

pub open_rows-requires : goal.open_rows-requires
open_rows-requires t c = let a = c.args in
    let sheet = sheet_of_lem t (goal.at.open_rows-requires t c).Start in
    let h = given t (goal.at.open_rows-requires t c).Start in
    let st = stands t (goal.at.open_rows-requires t c).After-settle-rows sheet h in
    let r = sums_asks sheet a.t.now a.w.now c.settle-rows.new.w a.p a.stop (Sum a.x) c.settle-rows.result a.x h refl st.0 (under t (goal.at.open_rows-requires t c).Else-p-cell sheet h) st.3 in
    (r.0, r.1, omega (arith, h.poor, near t (goal.at.open_rows-requires t c).Else-p-cell))

-- its part sums, its fees and its term
abbrev sums : (t : ℕ) → After-settle-rows t → Bound
sums t c = let a = c.args in sums_at a.t.now c.settle-rows.new.w (a.p.at + 1) c.settle-rows.result

abbrev no_owes : (t : ℕ) → After-settle-rows t → ℕ
no_owes t c = let a = c.args in a.p.spent + term_at a.t.now c.settle-rows.new.w (a.p.at + 1) c.settle-rows.result

-- the rows after its test
abbrev looked : (t : ℕ) → After-open_rows t → List ℕ
looked t c = c.open_rows.new.w

no_given : (t : ℕ) (c : After-open_rows t) (sheet : Sheet) → Given t c.before.before.before.before.before.before.before.before.before sheet → At sheet c.args.t.now (looked t c) (no_n c.args.p c.settle-rows.result) false (sums t c.before.before.before)
no_given t c sheet h =
    let a = c.args in
    at_no sheet a.t.now a.w.now c.settle-rows.new.w a.p a.stop (Sum a.x) c.settle-rows.result a.x h refl (stands t c.before.before.before sheet h).0 (under t c.before.before.before.before.before.before sheet h)
    (looked t c) (sums t c.before.before.before) c.open_rows.ensures.frame refl

no_due : (t : ℕ) (c : After-open_rows t) (sheet : Sheet) → Given t c.before.before.before.before.before.before.before.before.before sheet → Due sheet (no_n c.args.p c.settle-rows.result) (sums t c.before.before.before) (no_owes t c.before.before.before)
no_due t c sheet h =
    let a = c.args in
    due_at sheet a.t.now (looked t c) (no_n a.p c.settle-rows.result) false (sums t c.before.before.before) (no_given t c sheet h) (get_or c.settle-rows.new.w (mark_place (c.settle-rows.result - 1)) 0)
    (last_no_is sheet a.t.now a.w.now c.settle-rows.new.w a.p a.stop (Sum a.x) c.settle-rows.result a.x h refl (stands t c.before.before.before sheet h).0 (under t c.before.before.before.before.before.before sheet h))

pub no-requires : goal.no-requires
no-requires t c = let p = c.args.p in
    (near t (goal.at.no-requires t c).Else-p-cell, omega (arith, mask_fits p.at p.mask (given t (goal.at.no-requires t c).Start).mask (near t (goal.at.no-requires t c).Else-p-cell)))

-- the no child is walked on, with the part sums y
opened : (t : ℕ) (c : After-open_rows t) (y : ℕ) (e : c.open_rows.result ≡ Sum y) (sheet : Sheet)
    → let a = c.args in
    let n = length sheet.positions in
    (h : Given t c.before.before.before.before.before.before.before.before.before sheet)
    → Opened sheet (no_n a.p c.settle-rows.result) (sums t c.before.before.before) (no_owes t c.before.before.before) (no_due t c sheet h) a.limit n (n - (a.p.at + 1)) a.s y
opened t c y e sheet h =
    let a = c.args in
    let n = length sheet.positions in
    open-walked sheet (no_n a.p c.settle-rows.result) (sums t c.before.before.before) (no_owes t c.before.before.before) (no_due t c sheet h) a.limit n (n - (a.p.at + 1)) a.s y
    (sym c.open_rows.ensures.opens ∙ e)

pub counted-requires : goal.counted-requires
counted-requires t c = let l = (opened t (goal.at.counted-requires t c).After-open_rows c.in-Sum.y c.in-Sum.is (sheet_of_lem t (goal.at.counted-requires t c).Start) (given t (goal.at.counted-requires t c).Start)).within in
    omega (arith, l, c.ranges.limit)

-- so it is what the call is given
no_child : (t : ℕ) (c : After-open_rows t) (y : ℕ) (e : c.open_rows.result ≡ Sum y) (p : Node) (z : p ≡ no_n c.args.p c.settle-rows.result) (sheet : Sheet)
    → Given t c.before.before.before.before.before.before.before.before.before sheet → At sheet c.args.t.now (looked t c) p false (Sum y)
no_child t c y e p z sheet h =
    let a = c.args in
    subst (λ (q : Node). At sheet a.t.now (looked t c) q false (Sum y)) (sym z)
    (subst (At sheet a.t.now (looked t c) (no_n a.p c.settle-rows.result) false) (opened t c y e sheet h).sums (no_given t c sheet h))

pub walk-a-requires : goal.walk-a-requires
walk-a-requires t c = let z : c.no.result.at ≡ c.args.p.at + 1 = ap (λ (q : Node). q.at) c.no.ensures in
    (omega (arith, c.decreases, z, near t (goal.at.walk-a-requires t c).Else-p-cell), ((sheet_of_lem t (goal.at.walk-a-requires t c).Start, no_child t (goal.at.walk-a-requires t c).After-open_rows c.in-Sum.y c.in-Sum.is c.no.result c.no.ensures (sheet_of_lem t (goal.at.walk-a-requires t c).Start) (given t (goal.at.walk-a-requires t c).Start)), limits t (goal.at.walk-a-requires t c).Start))

-- what the first call does
walked_on : (t : ℕ) (c : After-open_rows t) (y : ℕ) (e : c.open_rows.result ≡ Sum y) (p : Node) (z : p ≡ no_n c.args.p c.settle-rows.result) (k : Search) (l : k ≡ counted_s c.args.s) (r : Search)
    → let a = c.args in
    ((other : Sheet) → At other a.t.now (looked t c) p false (Sum y) → view a.limit (length other.positions) r ≡ open_from (sheet_bound other) a.limit (length other.positions - p.at) (decided p) (view a.limit (length other.positions) k))
    → (sheet : Sheet) → Given t c.before.before.before.before.before.before.before.before.before sheet
    → let n = length sheet.positions in
    view a.limit n r ≡ limited_from (sheet_bound sheet) a.limit (n - (a.p.at + 1)) (decided (no_n a.p c.settle-rows.result)) (view a.limit n a.s)
walked_on t c y e p z k l r f sheet h =
    let n = length sheet.positions in
    let a = c.args in
    f sheet (no_child t c y e p z sheet h)
    ∙ ap (λ (q : Node). open_from (sheet_bound sheet) a.limit (n - q.at) (decided q) (view a.limit n k)) z
    ∙ ap (λ (k : Search). open_from (sheet_bound sheet) a.limit (n - (a.p.at + 1)) (decided (no_n a.p c.settle-rows.result)) (view a.limit n k)) l
    ∙ (opened t c y e sheet h).on

walked_keeps : (t : ℕ) (c : After-open_rows t) (p : Node) (z : p ≡ no_n c.args.p c.settle-rows.result) (w : List ℕ)
    → Recalled c.args.t.now (looked t c) w p.rows → Recalled c.args.t.now (looked t c) w c.settle-rows.result
walked_keeps t c p z w f = subst (λ (q : Node). Recalled c.args.t.now (looked t c) w q.rows) z f

-- what stands where the no child is not walked on
passed_by : (t : ℕ) (c : After-open_rows t) (e : c.open_rows.result ≡ Missing) (k : Search) (l : k ≡ reached_s c.args.limit c.args.s) (sheet : Sheet)
    → Given t c.before.before.before.before.before.before.before.before.before sheet
    → let n = length sheet.positions in
    let a = c.args in
    view a.limit n k ≡ limited_from (sheet_bound sheet) a.limit (n - (a.p.at + 1)) (decided (no_n a.p c.settle-rows.result)) (view a.limit n a.s)
passed_by t c e k l sheet h =
    let a = c.args in
    let n = length sheet.positions in
    ap (view a.limit n) l
    ∙ closed_walked sheet (no_n a.p c.settle-rows.result) (sums t c.before.before.before) (no_owes t c.before.before.before) (no_due t c sheet h) a.limit n (n - (a.p.at + 1)) a.s
    (sym c.open_rows.ensures.opens ∙ e)

-- the first branch, either way
first_walked : (t : ℕ) (c : Joined-open_rows t) (sheet : Sheet)
    → Given t c.before.before.before.before.before.before.before.before.before.before sheet
    → let n = length sheet.positions in
    let a = c.args in
    view a.limit n c.match-open_rows.a ≡ limited_from (sheet_bound sheet) a.limit (n - (a.p.at + 1)) (decided (no_n a.p c.settle-rows.result)) (view a.limit n a.s)
first_walked t c sheet h =
    let n = length sheet.positions in
    let a = c.args in
    elim c.match-open_rows.branch [
      | in-Sum w ↦ ap (view a.limit n) w.a-is ∙ walked_on t c.before w.in-Sum.y w.in-Sum.is w.no.result w.no.ensures w.counted.result w.counted.ensures w.walk-a.result w.walk-a.ensures.walked sheet h
      | in-Missing w ↦ ap (view a.limit n) w.a-is ∙ passed_by t c.before w.in-Missing.is w.reached-a.result w.reached-a.ensures sheet h
    ]

first_keeps : (t : ℕ) (c : Joined-open_rows t) → Recalled c.args.t.now c.settle-rows.new.w c.match-open_rows.w c.settle-rows.result
first_keeps t c =
    let a = c.args in
    let e = c.open_rows.ensures.frame in
    elim c.match-open_rows.branch [
      | in-Sum w ↦ subst (λ (l : List ℕ). Recalled a.t.now c.settle-rows.new.w l c.settle-rows.result) (sym w.w-is) (recalled_then a.t.now c.settle-rows.new.w (looked t c.before) w.walk-a.new.w c.settle-rows.result c.settle-rows.result (omega arith) e.kept (walked_keeps t c.before w.no.result w.no.ensures w.walk-a.new.w w.walk-a.ensures.frame))
      | in-Missing w ↦ subst (λ (l : List ℕ). Recalled a.t.now c.settle-rows.new.w l c.settle-rows.result) (sym w.w-is) e
    ]

-- the rows that stand after it
all_kept_lem : (t : ℕ) (c : Joined-open_rows t) → let a = c.args in Recalled a.t.now a.w.now c.match-open_rows.w a.p.rows
all_kept_lem t c =
    let r = stands t c.before.before.before.before (sheet_of_lem t c.before.before.before.before.before.before.before.before.before.before) (given t c.before.before.before.before.before.before.before.before.before.before) in
    recalled_then c.args.t.now c.args.w.now c.settle-rows.new.w c.match-open_rows.w c.args.p.rows c.settle-rows.result r.2 r.1 (first_keeps t c)

pub reached-a-requires : goal.reached-a-requires
reached-a-requires t c = limits t (goal.at.reached-a-requires t c).Start

-- ---- the second branch, from where both ways of the first meet: its fee is that of the tables, and its term the tables' for its own mark

abbrev Fee : (t : ℕ) → Joined-open_rows t → ℕ → Type 0
Fee t c fee = fee ≡ get_or c.args.t.now (fee_place c.args.p.at) 0

-- its node
abbrev yes_node : (t : ℕ) → Joined-open_rows t → ℕ → Node
yes_node t c fee = yes_n c.args.p c.settle-rows.result fee

-- its fees fit
paid : (t : ℕ) (c : Joined-open_rows t) (fee : ℕ) → Fee t c fee → (yes_node t c fee).spent < 2 ^ 64
paid t c fee f =
    let h = given t c.before.before.before.before.before.before.before.before.before.before in
    let p = c.args.p in
    omega (arith, h.poor, near t c.before.before.before.before.before.before.before, f, h.tables.fees p.at (under t c.before.before.before.before.before.before.before (sheet_of_lem t c.before.before.before.before.before.before.before.before.before.before) h), h.tables.fair p.at)

pub overflow_add-p-2 : goal.overflow_add-p-2
overflow_add-p-2 t c = omega (arith, near t (goal.at.overflow_add-p-2 t c).Else-p-cell)

pub bounds-t-p : goal.bounds-t-p
bounds-t-p t c = omega (arith, near t (goal.at.bounds-t-p t c).Else-p-cell)

pub overflow_add-p-3 : goal.overflow_add-p-3
overflow_add-p-3 t c = omega (arith, paid t (goal.at.overflow_add-p-3 t c).Joined-open_rows c.from-fee.result c.from-fee.ensures)

-- what is given of it
yes_given : (t : ℕ) (c : Joined-open_rows t) (fee : ℕ) (f : Fee t c fee) (sheet : Sheet)
    → Given t c.before.before.before.before.before.before.before.before.before.before sheet
    → let a = c.args in
    At sheet a.t.now c.match-open_rows.w (yes_node t c fee) true (Sum a.x)
yes_given t c fee f sheet h =
    let a = c.args in
    at_yes sheet a.t.now a.w.now c.settle-rows.new.w a.p a.stop (Sum a.x) c.settle-rows.result a.x h refl (stands t c.before.before.before.before sheet h).0 (under t c.before.before.before.before.before.before.before sheet h)
    c.match-open_rows.w fee (first_keeps t c) f

pub term-requires : goal.term-requires
term-requires t c = (omega arith, omega (arith, near t (goal.at.term-requires t c).Else-p-cell))

-- what is due of it, where g is its term
module _ (t : ℕ) (c : Joined-open_rows t) (fee : ℕ) (f : Fee t c fee) (g : ℕ) (k : g ≡ get_or c.args.t.now (term_place (c.args.p.at + 1) (c.args.p.at + 1)) 0) where
  abbrev yes_owes : ℕ
  yes_owes = (yes_node t c fee).spent + g

  yes_due : (sheet : Sheet) → Given t c.before.before.before.before.before.before.before.before.before.before sheet → Due sheet (yes_node t c fee) (Sum c.args.x) yes_owes
  yes_due sheet h =
      let a = c.args in
      subst (λ (d : ℕ). Due sheet (yes_node t c fee) (Sum a.x) ((yes_node t c fee).spent + d)) (sym k)
      (due_at sheet a.t.now c.match-open_rows.w (yes_node t c fee) true (Sum a.x) (yes_given t c fee f sheet h) (a.p.at + 1)
      (last_yes_is sheet a.t.now a.w.now c.settle-rows.new.w a.p a.stop (Sum a.x) c.settle-rows.result a.x h refl (stands t c.before.before.before.before sheet h).0 (under t c.before.before.before.before.before.before.before sheet h) fee))

  -- it fits with its part sums
  yes_fits : yes_owes + c.args.x < no_cost
  yes_fits = (yes_due (sheet_of_lem t c.before.before.before.before.before.before.before.before.before.before) (given t c.before.before.before.before.before.before.before.before.before.before)).fits c.args.x refl

  -- it is walked on, with the part sums y
  yes_opened : (r : Bound) (y : ℕ) → let a = c.args in r ≡ open_s a.limit yes_owes (Sum a.x) c.match-open_rows.a → r ≡ Sum y → (sheet : Sheet)
      → let n = length sheet.positions in
      (h : Given t c.before.before.before.before.before.before.before.before.before.before sheet)
      → Opened sheet (yes_node t c fee) (Sum a.x) yes_owes (yes_due sheet h) a.limit n (n - (a.p.at + 1)) c.match-open_rows.a y
  yes_opened r y e i sheet h =
      let a = c.args in
      let n = length sheet.positions in
      open-walked sheet (yes_node t c fee) (Sum a.x) yes_owes (yes_due sheet h) a.limit n (n - (a.p.at + 1)) c.match-open_rows.a y (sym e ∙ i)

pub overflow_add-p-4 : goal.overflow_add-p-4
overflow_add-p-4 t c = omega (arith, yes_fits t (goal.at.overflow_add-p-4 t c).Joined-open_rows c.from-fee.result c.from-fee.ensures c.term.result c.term.ensures)

pub open-requires : goal.open-requires
open-requires t c = λ x e.
    let z = sum_inj (Sum c.args.x) c.args.x x refl e in omega (arith, yes_fits t (goal.at.open-requires t c).Joined-open_rows c.from-fee.result c.from-fee.ensures c.term.result c.term.ensures)

pub reached-requires : goal.reached-requires
reached-requires t c = limits t (goal.at.reached-requires t c).Start

-- both branches, from what is walked of the second
both : (t : ℕ) (c : Joined-open_rows t) (fee : ℕ) (sheet : Sheet) (r : Search)
    → Given t c.before.before.before.before.before.before.before.before.before.before sheet
    → let a = c.args in
    let n = length sheet.positions in
    view a.limit n r ≡ limited_from (sheet_bound sheet) a.limit (n - (a.p.at + 1)) (decided (yes_node t c fee)) (view a.limit n c.match-open_rows.a)
    → view a.limit n r ≡ open_from (sheet_bound sheet) a.limit (n - a.p.at) (decided a.p) (view a.limit n a.s)
both t c fee sheet r h e =
    let a = c.args in
    let n = length sheet.positions in
    both_walked (sheet_bound sheet) a.limit n a.p c.settle-rows.result fee (view a.limit n a.s) (view a.limit n c.match-open_rows.a) (view a.limit n r)
    (under t c.before.before.before.before.before.before.before sheet h) (first_walked t c sheet h) e

pub returns-in_default : goal.returns-in_default
returns-in_default t c = let a = c.args in
    let j = (goal.at.returns-in_default t c).Joined-open_rows in
    let fee = c.from-fee.result in
    let f = c.from-fee.ensures in
    let g = c.term.result in
    let k = c.term.ensures in record {
      walked = λ sheet h.
          let n = length sheet.positions in
          both t j fee sheet c.reached.result h
          (ap (view a.limit n) c.reached.ensures
          ∙ closed_walked sheet (yes_node t j fee) (Sum a.x) (yes_owes t j fee f g k) (yes_due t j fee f g k sheet h) a.limit n (n - (a.p.at + 1)) c.match-open_rows.a (sym c.«open».ensures ∙ c.in_default.is));
      frame = all_kept_lem t j;
    }

pub yes-requires : goal.yes-requires
yes-requires t c = let p = c.args.p in
    (near t (goal.at.yes-requires t c).Else-p-cell, mask_fits p.at p.mask (given t (goal.at.yes-requires t c).Start).mask (near t (goal.at.yes-requires t c).Else-p-cell), paid t (goal.at.yes-requires t c).Joined-open_rows c.from-fee.result c.from-fee.ensures)

pub counted-requires-2 : goal.counted-requires-2
counted-requires-2 t c = let s = (goal.at.counted-requires-2 t c).Start in
    omega (
      arith,
      (yes_opened t (goal.at.counted-requires-2 t c).Joined-open_rows c.from-fee.result c.from-fee.ensures c.term.result c.term.ensures c.«open».result c.in-Sum-open.y c.«open».ensures c.in-Sum-open.is (sheet_of_lem t s) (given t s)).within,
      c.ranges.limit,
    )

-- so it is what the call is given
yes_child : (t : ℕ) (c : Joined-open_rows t) (fee : ℕ) (f : Fee t c fee) (p : Node) → p ≡ yes_node t c fee → (y : ℕ) (sheet : Sheet)
    → let a = c.args in
    Given t c.before.before.before.before.before.before.before.before.before.before sheet → Sum a.x ≡ Sum y → At sheet a.t.now c.match-open_rows.w p true (Sum y)
yes_child t c fee f p i y sheet h e =
    let a = c.args in
    subst (λ (q : Node). At sheet a.t.now c.match-open_rows.w q true (Sum y)) (sym i)
    (subst (At sheet a.t.now c.match-open_rows.w (yes_node t c fee) true) e (yes_given t c fee f sheet h))

pub walk-b-requires : goal.walk-b-requires
walk-b-requires t c = let z : c.yes.result.at ≡ c.args.p.at + 1 = ap (λ (q : Node). q.at) c.yes.ensures in
    let j = (goal.at.walk-b-requires t c).Joined-open_rows in
    let s = (goal.at.walk-b-requires t c).Start in
    let fee = c.from-fee.result in
    let f = c.from-fee.ensures in
    let sheet = sheet_of_lem t s in
    let o = yes_opened t j fee f c.term.result c.term.ensures c.«open».result c.in-Sum-open.y c.«open».ensures c.in-Sum-open.is sheet (given t s) in
    (omega (arith, c.decreases, z, near t (goal.at.walk-b-requires t c).Else-p-cell), ((sheet, yes_child t j fee f c.yes.result c.yes.ensures c.in-Sum-open.y sheet (given t s) o.sums), limits t s))

pub returns : goal.returns
returns t c = let a = c.args in
    let r = stands t (goal.at.returns t c).After-settle-rows (sheet_of_lem t (goal.at.returns t c).Start) (given t (goal.at.returns t c).Start) in
    let j = (goal.at.returns t c).Joined-open_rows in
    let fee = c.from-fee.result in
    let f = c.from-fee.ensures in
    let k = subst (λ (p : Node). Recalled a.t.now c.match-open_rows.w c.walk-b.new.w p.rows) c.yes.ensures c.walk-b.ensures.frame in record {
      walked = λ sheet h.
          let n = length sheet.positions in
          let o = yes_opened t j fee f c.term.result c.term.ensures c.«open».result c.in-Sum-open.y c.«open».ensures c.in-Sum-open.is sheet h in
          both t j fee sheet c.walk-b.result h
          (c.walk-b.ensures.walked sheet (yes_child t j fee f c.yes.result c.yes.ensures c.in-Sum-open.y sheet h o.sums)
          ∙ ap (λ (p : Node). open_from (sheet_bound sheet) a.limit (n - p.at) (decided p) (view a.limit n c.counted-2.result)) c.yes.ensures
          ∙ ap (λ (k : Search). open_from (sheet_bound sheet) a.limit (n - (a.p.at + 1)) (decided (yes_node t j fee)) (view a.limit n k)) c.counted-2.ensures
          ∙ o.on);
      frame = recalled_then a.t.now a.w.now c.match-open_rows.w c.walk-b.new.w a.p.rows c.settle-rows.result r.2 (all_kept_lem t j).kept k;
    }
