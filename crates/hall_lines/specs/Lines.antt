-- What the functions of a line ask and find: at an opening no stop and a stop, at a stop not removed and removed, and a stop whose removals are decided.
use Rattle.std.specs.Prelude.{ℕ, ◌+◌, ◌*◌, ◌<◌, ◌≤◌, ◌≡◌, Bool, true, false, List, Option, Some, None, length, get_or}
use Rattle.branch.specs.declared.Bound.{Bound}
use Rattle.branch.specs.declared.Bound.TheVariants.{Missing, Sum}
use Rattle.branch.specs.Search.{snoc}
use Rattle.model.specs.Decisions.{concat}
use Rattle.lane_rows.specs.Layout.{fee_place}
use Rattle.lane_rows.specs.Tables.{sum_where}
use Rattle.held_rows.specs.Held.{HeldSheet, held, held_bound}
use Rattle.held_lanes.specs.Places.{top_place, removal_place}
use Rattle.search_state.specs.declared.Search.{Search}
use Rattle.search_state.specs.State.{open_s}
use Rattle.held_nodes.specs.declared.Node.{Node}
use Rattle.held_nodes.specs.State.{best_in}
use Rattle.hall_nodes.specs.Lines.{Slot, Given, Goes, SlotKept, no_blocks_lem, yes_blocks}
use Rattle.hall_lines.specs.declared.LineTables.{LineTables}
use Rattle.hall_lines.specs.declared.Level.{Level}
use Rattle.hall_lines.specs.declared.LineRows.{LineRows}
use Rattle.hall_lines.specs.declared.Stop.{Stop}
use Rattle.hall_lines.specs.declared.Decision.{Decision}
use Rattle.hall_lines.specs.Levels.{sums_in, term_in, level_node, stop_node, LevelsKept}

-- a line's tables by the two arrays
abbrev pub tables_by : List ℕ → List ℕ → LineTables
tables_by t u = record { t = t; u = u }

-- a line's numbers with these rows
abbrev pub looks : LineRows → List ℕ → LineRows
looks o w = record { w = w; v = o.v; n = o.n }

-- ---- a line as a slot of the hall

-- a line as a slot, with a node, its part sums and its term
abbrev pub slot_with : HeldSheet → List (List Bool) → LineTables → LineRows → Node → ℕ → ℕ → Slot
slot_with sheet ds tb o p sums term = record { sheet = sheet; blocks = ds; t = tb.t; u = tb.u; w = o.w; v = o.v; node = p; sums = sums; term = term }

-- a line as a slot at a level
abbrev pub open_slot : HeldSheet → List (List Bool) → LineTables → LineRows → ℕ → ℕ → Slot
open_slot sheet ds tb o at paid = slot_with sheet ds tb o (level_node (held sheet) o.n at paid) (sums_in o.n at) (term_in o.n at)

-- a line as a slot at a stop behind the level
abbrev pub stop_slot : HeldSheet → List (List Bool) → LineTables → LineRows → ℕ → ℕ → Stop → Slot
stop_slot sheet ds tb o at paid p = slot_with sheet ds tb o (stop_node o.n at paid p) p.sums p.term

-- the line is given at a level, and an opening is left
pub record Opening (sheet : HeldSheet) (ds : List (List Bool)) (tb : LineTables) (o : LineRows) (at paid : ℕ) : Type 0 where
  pub given : Given (open_slot sheet ds tb o at paid)
  pub less : at < length sheet.positions

-- the line is given at a stop, and a removal is open
pub record Removing (sheet : HeldSheet) (ds : List (List Bool)) (tb : LineTables) (o : LineRows) (at paid : ℕ) (p : Stop) : Type 0 where
  pub given : Given (stop_slot sheet ds tb o at paid p)
  pub left : p.next < held sheet

-- no removal is open
pub record Decided (sheet : HeldSheet) (ds : List (List Bool)) (tb : LineTables) (o : LineRows) (at paid : ℕ) (p : Stop) : Type 0 where
  pub given : Given (stop_slot sheet ds tb o at paid p)
  pub all : held sheet ≤ p.next

-- ---- a node below, tested

-- the line's own node below, where the decision x is taken: its part sums are e, and `due` are its fees, removals and term
pub record OwnDue (sheet : HeldSheet) (ds : List (List Bool)) (x : Bool) (e : Bound) (due : ℕ) : Type 0 where
  pub none : e ≡ Missing → held_bound sheet (snoc (concat ds) x) ≡ Missing
  pub some : (y : ℕ) → e ≡ Sum y → held_bound sheet (snoc (concat ds) x) ≡ Sum (due + y)
  pub low : (y : ℕ) → e ≡ Sum y → due + y ≤ 17648000000

-- the code's test of it, where `due` is the hall's: the answer has the hall's estimate, if it is walked on
pub record Answers {A : Type 0} (total : A → ℕ) (limit due : ℕ) (e : Bound) (s : Search) (r : Option A) : Type 0 where
  pub closed : r ≡ None → open_s limit due e s ≡ Missing
  pub opened : (q : A) → r ≡ Some q → (y : ℕ) × (open_s limit due e s ≡ Sum y) × (total q ≡ due + y)

-- the estimate itself
abbrev pub itself : ℕ → ℕ
itself z = z

-- the estimate of a removal decided
abbrev pub total_of : Decision → ℕ
total_of q = q.total

-- no stop: the term h and the part sums y of the node below, which is the next level
pub record NoFound (sheet : HeldSheet) (ds : List (List Bool)) (tb : LineTables) (o o' : LineRows) (at paid limit rest : ℕ) (s : Search) (r : Option ℕ) : Type 0 where
  pub h : ℕ
  pub y : ℕ
  pub aside : o'.v ≡ o.v
  pub due : OwnDue sheet ds false (sum_where h y) (paid + h)
  pub answers : Answers itself limit (rest + h) (sum_where h y) s r
  pub kept : SlotKept (open_slot sheet ds tb o at paid) (open_slot sheet ds tb o' at paid)
  pub levels : LevelsKept o.n o'.n (at + 1)
  pub goes : (z : ℕ) → r ≡ Some z → Goes false (open_slot sheet ds tb o' at paid) (open_slot sheet (no_blocks_lem ds) tb o' (at + 1) paid)

-- a stop at the opening, before any removal
abbrev pub first_stop_lem : List ℕ → List Level → ℕ → Stop
first_stop_lem u n at = record { next = 0; shut = 0; removed = 0; sums = sums_in n at; term = get_or u (top_place (at + 1)) 0 }

-- the stop where the next holding part is not removed: shut to the lanes of the set, with the part sums y and the term h
abbrev pub stays_s : Stop → ℕ → ℕ → ℕ → Stop
stays_s p set y h = record { next = p.next + 1; shut = set; removed = p.removed * 2; sums = y; term = h }

-- the stop where it is removed
abbrev pub out_s : Stop → Stop
out_s p = record { next = p.next + 1; shut = p.shut; removed = p.removed * 2 + 1; sums = p.sums; term = p.term }

-- a stop's fee and its term
abbrev pub stop_due : LineTables → ℕ → ℕ
stop_due tb at = get_or tb.t (fee_place at) 0 + get_or tb.u (top_place (at + 1)) 0

-- a stop: the node below
pub record StopFound (sheet : HeldSheet) (ds : List (List Bool)) (tb : LineTables) (o o' : LineRows) (at paid limit rest : ℕ) (s : Search) (r : Option ℕ) : Type 0 where
  pub rows : o'.w ≡ o.w
  pub levels : o'.n ≡ o.n
  pub due : OwnDue sheet ds true (Sum (sums_in o.n at)) (paid + stop_due tb at)
  pub answers : Answers itself limit (rest + stop_due tb at) (Sum (sums_in o.n at)) s r
  pub kept : SlotKept (open_slot sheet ds tb o at paid) (open_slot sheet ds tb o' at paid)
  pub best : (i : ℕ) → i < length sheet.positions → best_in o'.v i ≡ best_in o.v i
  pub goes : (z : ℕ) → r ≡ Some z → Goes true (open_slot sheet ds tb o' at paid) (stop_slot sheet (yes_blocks ds) tb o' at (paid + get_or tb.t (fee_place at) 0) (first_stop_lem tb.u o.n at))

-- not removed: the term h and the part sums y of the node below, whose blocks are ds'
pub record StayFound (sheet : HeldSheet) (ds : List (List Bool)) (tb : LineTables) (o o' : LineRows) (at paid : ℕ) (p : Stop) (limit rest : ℕ) (s : Search) (r : Option Decision) : Type 0 where
  pub h : ℕ
  pub y : ℕ
  pub aside : o'.v ≡ o.v
  pub levels : o'.n ≡ o.n
  pub due : OwnDue sheet ds false (sum_where h y) (paid + h)
  pub answers : Answers total_of limit (rest + h) (sum_where h y) s r
  pub kept : SlotKept (stop_slot sheet ds tb o at paid p) (stop_slot sheet ds tb o' at paid p)
  pub goes : (q : Decision) → r ≡ Some q → (q.stop.next ≡ p.next + 1) × ((ds' : List (List Bool)) × Goes false (stop_slot sheet ds tb o' at paid p) (stop_slot sheet ds' tb o' at paid q.stop))

-- removed: its removal is paid
pub record OutFound (sheet : HeldSheet) (ds : List (List Bool)) (tb : LineTables) (o : LineRows) (at paid : ℕ) (p : Stop) (limit rest : ℕ) (s : Search) (r : Option Decision) : Type 0 where
  pub due : OwnDue sheet ds true (Sum p.sums) (paid + (get_or tb.u (removal_place p.next) 0 + p.term))
  pub answers : Answers total_of limit (rest + (get_or tb.u (removal_place p.next) 0 + p.term)) (Sum p.sums) s r
  pub goes : (q : Decision) → r ≡ Some q → (q.stop.next ≡ p.next + 1) × ((ds' : List (List Bool)) × Goes true (stop_slot sheet ds tb o at paid p) (stop_slot sheet ds' tb o at (paid + get_or tb.u (removal_place p.next) 0) q.stop))

-- a stop that is settled is the next level, and what is kept of that is kept of the stop
pub record LineSettled (sheet : HeldSheet) (ds : List (List Bool)) (tb : LineTables) (o o' : LineRows) (at paid : ℕ) (p : Stop) : Type 0 where
  pub given : Given (open_slot sheet ds tb o' (at + 1) paid)
  pub levels : LevelsKept o.n o'.n (at + 1)
  pub best : (i : ℕ) → i < length sheet.positions → best_in o'.v i ≡ best_in o.v i
  pub kept : (s'' : Slot) → SlotKept (open_slot sheet ds tb o' (at + 1) paid) s'' → SlotKept (stop_slot sheet ds tb o at paid p) (stop_slot sheet ds tb (record { w = s''.w; v = s''.v; n = o.n }) at paid p)
