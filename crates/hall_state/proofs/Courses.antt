-- Lines in the walk's arrays: a line's slot where its part of the arrays is as before or kept, all slots from each line's, and one line's course replaced.
use Prim.Native.Nat.{ℕ, zero, suc, ◌+◌, ◌<◌, ◌≤◌}
use mathlib.Core.Path.{◌≡◌, refl, sym, ap, subst, ◌∙◌}
use mathlib.Core.Bool.{Bool}
use mathlib.Core.List.{List, [], ◌∷◌, map}
use Rattle.std.specs.Prelude.{Option, Some, None}
use native.Mathlib.Omega.{arith}
use native.Mathlib.Decide.{ℕ_discrete}
use lib.ListN.{length, set, length-map}
use Rattle.model.specs.Model.{Job, Each, holding, removal_of_lem}
use Rattle.model.specs.LowerBound.{inner}
use Rattle.model.proofs.Positions.{positions_size}
use Rattle.model.proofs.Totals.{select-length}
use Rattle.held_rows.specs.Held.{HeldSheet, SheetOf, held}
use Rattle.lane_rows.proofs.Memory.{recalled_none}
use Rattle.hall_model.specs.Hall.{Hall, Placed}
use Rattle.hall_model.specs.Agenda.{lines_from}
use Rattle.hall_nodes.specs.Lines.{Slot, Given, slot_bound, SlotOf, lines_sum, others_sum, SlotIn, Goes, GoesAt, SlotKept, with_rows}
use Rattle.hall_nodes.proofs.Going.{looked_kept, kept_then, goes_kept}
use Rattle.hall_nodes.proofs.Incumbent.{SameBest}
use Rattle.hall_lines.specs.Levels.{LevelsKept}
use Rattle.hall_lines.specs.declared.LineRows.{LineRows}
use Rattle.hall_lines.specs.declared.Stop.{Stop}
use Rattle.hall_lines.specs.Lines.{open_slot, stop_slot}
use Rattle.hall_lines.proofs.Levels.{levels_none, levels_then, level_same, stop_same}
use Rattle.hall_state.specs.declared.Ground.{Ground}
use Rattle.hall_state.specs.Courses.{Arrays, tables_at, rows_at, Course, course_in, level_slot, stopped_slot, slot_by, line_slot, slots_at, LineKept, Kept, BestSame}
use Rattle.hall_state.specs.Moves.{SameCourses}

-- what holds of d and of each other number holds of each
pub at_each : {P : ℕ → Type 0} (d : ℕ) → P d → ((e : ℕ) → (e ≡ d → ⊥) → P e) → (e : ℕ) → P e
at_each {P} d here other e = go (ℕ_discrete e d)
  where
    go : Dec (e ≡ d) → P e
    go (yes z) = subst P (sym z) here
    go (no z) = other e z

-- where nothing is written and no course moves, the sheets and the incumbent's removals stay
pub same_self : (a : Arrays) (cs : List Course) → SameCourses a a cs cs
same_self a cs = record { size = refl; sheet = λ e l. refl; best = λ e l i h. refl }

-- ---- one line

module _ (g : Ground) where
  -- a line whose levels are kept has its slot with other rows
  pub moved : (a a' : Arrays) (d : ℕ) (c : Course) → LevelsKept (rows_at a d).n (rows_at a' d).n (c.at + 1) → line_slot g a' d c ≡ with_rows (line_slot g a d c) (rows_at a' d).w (rows_at a' d).v
  moved a a' d c k = go c.stop
    where
      go : (b : Option Stop) → slot_by b g a' d c ≡ with_rows (slot_by b g a d c) (rows_at a' d).w (rows_at a' d).v
      go None = level_same c.sheet c.blocks (tables_at g d) (rows_at a d) (rows_at a' d) c.at c.paid k
      go (Some p) = stop_same c.sheet c.blocks (tables_at g d) (rows_at a d) (rows_at a' d) c.at c.paid p k

  -- a line's slot has that line's rows, at a stop or at a level
  pub slot_rows : (a : Arrays) (d : ℕ) (c : Course) → (line_slot g a d c).w ≡ (rows_at a d).w
  slot_rows a d c = go c.stop
    where
      go : (b : Option Stop) → (slot_by b g a d c).w ≡ (rows_at a d).w
      go None = refl
      go (Some p) = refl

  -- a line's slot has what stands beside that line's rows
  pub slot_aside : (a : Arrays) (d : ℕ) (c : Course) → (line_slot g a d c).v ≡ (rows_at a d).v
  slot_aside a d c = go c.stop
    where
      go : (b : Option Stop) → (slot_by b g a d c).v ≡ (rows_at a d).v
      go None = refl
      go (Some p) = refl

  -- a line's slot has the sheet of the line's course
  pub slot_sheet : (a : Arrays) (d : ℕ) (c : Course) → (line_slot g a d c).sheet ≡ c.sheet
  slot_sheet a d c = go c.stop
    where
      go : (b : Option Stop) → (slot_by b g a d c).sheet ≡ c.sheet
      go None = refl
      go (Some p) = refl

  -- a line's slot has the blocks that the line's course has decided
  pub slot_blocks : (a : Arrays) (d : ℕ) (c : Course) → (line_slot g a d c).blocks ≡ c.blocks
  slot_blocks a d c = go c.stop
    where
      go : (b : Option Stop) → (slot_by b g a d c).blocks ≡ c.blocks
      go None = refl
      go (Some p) = refl

  -- a line whose rows are as before has the slot that it had
  pub line_same : (a a' : Arrays) (d : ℕ) (c : Course) → rows_at a' d ≡ rows_at a d → line_slot g a' d c ≡ line_slot g a d c
  line_same a a' d c e = go c.stop
    where
      go : (b : Option Stop) → slot_by b g a' d c ≡ slot_by b g a d c
      go None = ap (λ (o : LineRows). open_slot c.sheet c.blocks (tables_at g d) o c.at c.paid) e
      go (Some p) = ap (λ (o : LineRows). stop_slot c.sheet c.blocks (tables_at g d) o c.at c.paid p) e

  -- a slot kept from a first to a second, and from that to a third, is kept throughout
  pub slot_then : (s s' s'' : Slot) → SlotKept s s' → SlotKept s' s'' → SlotKept s s''
  slot_then s s' s'' k l = subst (SlotKept s) (sym (l.same ∙ ap (λ (x : Slot). with_rows x s''.w s''.v) k.same)) (kept_then s s' s'' k l)

  -- a line that is given is kept where nothing is touched of it
  pub self_kept : (a : Arrays) (d : ℕ) (c : Course) → Given (line_slot g a d c) → LineKept g a a d c
  self_kept a d c h = record { slot = go c.stop h; levels = levels_none (rows_at a d).n (c.at + 1) }
    where
      go : (b : Option Stop) → Given (slot_by b g a d c) → SlotKept (slot_by b g a d c) (slot_by b g a d c)
      go None f = looked_kept (level_slot g a d c) f (rows_at a d).w (recalled_none (tables_at g d).t (rows_at a d).w (level_slot g a d c).node.rows (f.opening refl).all.memo)
      go (Some p) f = looked_kept (stopped_slot g a d c p) f (rows_at a d).w (recalled_none (tables_at g d).t (rows_at a d).w (stopped_slot g a d c p).node.rows (f.stop refl).before.memo)

  -- a given line is kept where its rows are as before
  pub untouched_kept : (a a' : Arrays) (d : ℕ) (c : Course) → rows_at a' d ≡ rows_at a d → Given (line_slot g a d c) → LineKept g a a' d c
  untouched_kept a a' d c e h = record {
    slot = subst (SlotKept (line_slot g a d c)) (sym (line_same a a' d c e)) (self_kept a d c h).slot;
    levels = subst (λ (o : LineRows). LevelsKept (rows_at a d).n o.n (c.at + 1)) (sym e) (levels_none (rows_at a d).n (c.at + 1));
  }

  -- a line kept from the first rows to the second and from those to the third is kept throughout
  pub line_then : (a a' a'' : Arrays) (d : ℕ) (c : Course) → LineKept g a a' d c → LineKept g a' a'' d c → LineKept g a a'' d c
  line_then a a' a'' d c k l = record {
    slot = slot_then (line_slot g a d c) (line_slot g a' d c) (line_slot g a'' d c) k.slot l.slot;
    levels = levels_then (rows_at a d).n (rows_at a' d).n (rows_at a'' d).n (c.at + 1) (c.at + 1) (omega arith) k.levels l.levels;
  }

  -- what is kept of the line where it has gone on is kept of it
  pub line_goes : (a a' : Arrays) (d : ℕ) (x : Bool) (c c' : Course) → c.at ≤ c'.at → Goes x (line_slot g a d c) (line_slot g a d c') → LineKept g a a' d c' → LineKept g a a' d c
  line_goes a a' d x c c' le go k =
      let lv = levels_then (rows_at a d).n (rows_at a d).n (rows_at a' d).n (c.at + 1) (c'.at + 1) (omega arith) (levels_none (rows_at a d).n (c.at + 1)) k.levels in
      let z = goes_kept x (line_slot g a d c) (line_slot g a d c') (line_slot g a' d c') go k.slot in
      record {
        slot = subst (SlotKept (line_slot g a d c)) ((λ i. with_rows (line_slot g a d c) (slot_rows a' d c' i) (slot_aside a' d c' i)) ∙ sym (moved a a' d c lv)) z;
        levels = lv;
      }

-- ---- all lines

-- lines kept from the first arrays to the second and from those to the third are all kept throughout
pub all_then : (g : Ground) (a a' a'' : Arrays) (cs : List Course) → Kept g a a' cs → Kept g a' a'' cs → Kept g a a'' cs
all_then g a a' a'' cs k l = record { size = l.size ∙ k.size; each = λ e h. line_then g a a' a'' e (course_in cs e) (k.each e h) (l.each e h) }

module _ (g : Ground) where
  each_from : (R : Slot → Slot → Type 0) (a a' : Arrays) (d : ℕ) (cs cs' : List Course) → length cs' ≡ length cs → ((e : ℕ) → e < length cs → R (line_slot g a (d + e) (course_in cs e)) (line_slot g a' (d + e) (course_in cs' e))) → Each R (slots_at g a d cs) (slots_at g a' d cs')
  each_from R a a' d [] [] n k = tt
  each_from R a a' d [] (c' ∷ cs') n k = absurd (omega (arith, n))
  each_from R a a' d (c ∷ cs) [] n k = absurd (omega (arith, n))
  each_from R a a' d (c ∷ cs) (c' ∷ cs') n k =
      let z : d + 0 ≡ d = omega arith in (
        subst (λ (j : ℕ). R (line_slot g a j c) (line_slot g a' j c')) z (k 0 (omega arith)),
        each_from R a a' (suc d) cs cs' (omega (arith, n)) (λ e h. let y : d + suc e ≡ suc d + e = omega arith in subst (λ (j : ℕ). R (line_slot g a j (course_in cs e)) (line_slot g a' j (course_in cs' e))) y (k (suc e) (omega (arith, h)))),
      )

  -- what each line's slots over two arrays have to each other, all lines' slots have line by line
  pub each_slots : (R : Slot → Slot → Type 0) (a a' : Arrays) (cs cs' : List Course) → length cs' ≡ length cs → ((e : ℕ) → e < length cs → R (line_slot g a e (course_in cs e)) (line_slot g a' e (course_in cs' e))) → Each R (slots_at g a 0 cs) (slots_at g a' 0 cs')
  each_slots R a a' cs cs' n k = each_from R a a' 0 cs cs' n (λ e h. let z : e ≡ 0 + e = omega arith in subst (λ (j : ℕ). R (line_slot g a j (course_in cs e)) (line_slot g a' j (course_in cs' e))) z (k e h))

  -- where all lines are kept, each line's slot over the old arrays is kept over the new ones
  pub all_kept_lem : (a a' : Arrays) (cs : List Course) → Kept g a a' cs → Each SlotKept (slots_at g a 0 cs) (slots_at g a' 0 cs)
  all_kept_lem a a' cs k = each_slots SlotKept a a' cs cs refl (λ e h. (k.each e h).slot)

  -- where the sheets and the incumbent's removals stay, each line's slots over both arrays share them
  pub same_best : (a a' : Arrays) (cs cs' : List Course) → SameCourses a a' cs cs' → Each SameBest (slots_at g a 0 cs) (slots_at g a' 0 cs')
  same_best a a' cs cs' k = each_slots SameBest a a' cs cs' k.size (λ e h.
      let c = course_in cs e in
      let c' = course_in cs' e in
      record {
        sheet = slot_sheet g a' e c' ∙ k.sheet e h ∙ sym (slot_sheet g a e c);
        best = subst (λ (v' : List ℕ). BestSame (line_slot g a e c).v v' (line_slot g a e c).sheet) (sym (slot_aside g a' e c'))
            (subst (λ (v : List ℕ). BestSame v (rows_at a' e).v (line_slot g a e c).sheet) (sym (slot_aside g a e c)) (subst (BestSame (rows_at a e).v (rows_at a' e).v) (sym (slot_sheet g a e c)) (k.best e h)));
      })

  -- ---- one line among them

  slot_from : (a : Arrays) (d i : ℕ) (cs : List Course) → i < length cs → SlotIn i (slots_at g a d cs) (line_slot g a (d + i) (course_in cs i))
  slot_from a d i [] h = absurd (omega (arith, h))
  slot_from a d zero (c ∷ cs) h = let z : d ≡ d + 0 = omega arith in ap (λ (j : ℕ). line_slot g a j c) z
  slot_from a d (suc i) (c ∷ cs) h = let z : suc d + i ≡ d + suc i = omega arith in subst (λ (j : ℕ). SlotIn i (slots_at g a (suc d) cs) (line_slot g a j (course_in cs i))) z (slot_from a (suc d) i cs (omega (arith, h)))

  -- the slot at place i is that of the line there, with its course
  pub slot_in : (a : Arrays) (i : ℕ) (cs : List Course) → i < length cs → SlotIn i (slots_at g a 0 cs) (line_slot g a i (course_in cs i))
  slot_in a i cs h = let z : 0 + i ≡ i = omega arith in subst (λ (j : ℕ). SlotIn i (slots_at g a 0 cs) (line_slot g a j (course_in cs i))) z (slot_from a 0 i cs h)

  goes_from : (a : Arrays) (d i : ℕ) (x : Bool) (cs : List Course) (c' : Course) → i < length cs → Goes x (line_slot g a (d + i) (course_in cs i)) (line_slot g a (d + i) c') → GoesAt i x (slots_at g a d cs) (slots_at g a d (set cs i c'))
  goes_from a d i x [] c' h k = absurd (omega (arith, h))
  goes_from a d zero x (c ∷ cs) c' h k = let z : d + 0 ≡ d = omega arith in (subst (λ (j : ℕ). Goes x (line_slot g a j c) (line_slot g a j c')) z k, refl)
  goes_from a d (suc i) x (c ∷ cs) c' h k = let z : d + suc i ≡ suc d + i = omega arith in (refl, goes_from a (suc d) i x cs c' (omega (arith, h)) (subst (λ (j : ℕ). Goes x (line_slot g a j (course_in cs i)) (line_slot g a j c')) z k))

  -- where the line at place i goes on to another course, the slots do so at that place only
  pub goes_in : (a : Arrays) (i : ℕ) (x : Bool) (cs : List Course) (c' : Course) → i < length cs → Goes x (line_slot g a i (course_in cs i)) (line_slot g a i c') → GoesAt i x (slots_at g a 0 cs) (slots_at g a 0 (set cs i c'))
  goes_in a i x cs c' h k = let z : i ≡ 0 + i = omega arith in goes_from a 0 i x cs c' h (subst (λ (j : ℕ). Goes x (line_slot g a j (course_in cs i)) (line_slot g a j c')) z k)

-- the sum of all is that of the others and the line's own
pub others_own : (i : ℕ) (ss : List Slot) (s : Slot) → SlotIn i ss s → others_sum i ss + slot_bound s ≡ lines_sum ss
others_own i [] s h = absurd h
others_own zero (s₀ ∷ ss) s h = let z = ap slot_bound h in omega (arith, z)
others_own (suc i) (s₀ ∷ ss) s h = omega (arith, others_own i ss s h)

-- after the line at place i goes on, all lines' sum is the others' old sum and its new estimate
pub others_goes : (i : ℕ) (x : Bool) (ss ss' : List Slot) (s' : Slot) → GoesAt i x ss ss' → SlotIn i ss' s' → others_sum i ss + slot_bound s' ≡ lines_sum ss'
others_goes i x [] ss' s' k h = absurd k
others_goes i x (s ∷ ss) [] s' k h = absurd h
others_goes zero x (s ∷ ss) (s₀ ∷ ss') s' k h = let y = ap lines_sum k.1 in let z = ap slot_bound h in omega (arith, y, z)
others_goes (suc i) x (s ∷ ss) (s₀ ∷ ss') s' k h = let z = ap slot_bound k.0 in omega (arith, z, others_goes i x ss ss' s' k.1 h)

-- what is kept has the same estimate
pub bound_kept : (s s' : Slot) → SlotKept s s' → slot_bound s' ≡ slot_bound s
bound_kept s s' k = ap slot_bound k.same

-- slots of which each has the estimate of another have the sum of the others
pub sum_by : {R : Slot → Slot → Type 0} → ((s s' : Slot) → R s s' → slot_bound s' ≡ slot_bound s) → (ss ss' : List Slot) → Each R ss ss' → lines_sum ss' ≡ lines_sum ss
sum_by f [] [] k = refl
sum_by f [] (s' ∷ ss') k = absurd k
sum_by f (s ∷ ss) [] k = absurd k
sum_by f (s ∷ ss) (s' ∷ ss') k = omega (arith, f s s' k.0, sum_by f ss ss' k.1)

-- slots that are each kept have the same sum of estimates
pub sum_kept : (ss ss' : List Slot) → Each SlotKept ss ss' → lines_sum ss' ≡ lines_sum ss
sum_kept = sum_by bound_kept

-- the line at place i, of the hall's
pub record LineHere (hall : Hall) (jobs : List Job) (p : List Bool) (d i : ℕ) (s : Slot) : Type 0 where
  -- the job of the line at place i
  pub job : Job
  -- that job stands at place i among the jobs
  pub placed : Placed jobs i job
  -- the slot is that job's slot, at its place in the hall, at this node
  pub slot_of : SlotOf hall p (record { place = d + i; job = job }) s

-- where each line has its slot, the slot at place i belongs to the job at place i
pub line_here : (hall : Hall) (p : List Bool) (g : Ground) (a : Arrays) (d i : ℕ) (jobs : List Job) (cs : List Course) → i < length cs → Each (SlotOf hall p) (lines_from d jobs) (slots_at g a d cs) → LineHere hall jobs p d i (line_slot g a (d + i) (course_in cs i))
unfolding lines_from
line_here hall p g a d i jobs [] h e = absurd (omega (arith, h))
line_here hall p g a d i [] (c ∷ cs) h e = absurd e
line_here hall p g a d zero (job ∷ jobs) (c ∷ cs) h e =
    let z : d ≡ d + 0 = omega arith in
    record { job = job; placed = refl; slot_of = subst (λ (j : ℕ). SlotOf hall p (record { place = j; job = job }) (line_slot g a j c)) z e.0 }
line_here hall p g a d (suc i) (job ∷ jobs) (c ∷ cs) h e =
    let r = line_here hall p g a (suc d) i jobs cs (omega (arith, h)) e.1 in
    let z : suc d + i ≡ d + suc i = omega arith in
    record { job = r.job; placed = r.placed; slot_of = subst (λ (j : ℕ). SlotOf hall p (record { place = j; job = r.job }) (line_slot g a j (course_in cs i))) z r.slot_of }

-- the line's slot is given
pub line_given : (hall : Hall) (p : List Bool) (g : Ground) (a : Arrays) (cs : List Course) (e : ℕ) → e < length cs → Each (SlotOf hall p) (lines_from 0 hall.jobs) (slots_at g a 0 cs) → Given (line_slot g a e (course_in cs e))
line_given hall p g a cs e l h = let z : 0 + e ≡ e = omega arith in subst (λ (j : ℕ). Given (line_slot g a j (course_in cs e))) z (line_here hall p g a 0 e hall.jobs cs l h).slot_of.given

-- a line's job: as many holding parts and openings as its sheet has
pub record JobHere (hall : Hall) (d : ℕ) (sheet : HeldSheet) : Type 0 where
  -- the job at place d of the hall
  pub job : Job
  -- that job stands at place d among the hall's jobs
  pub placed : Placed hall.jobs d job
  -- the sheet is that job's sheet
  pub sheet_of_lem : SheetOf job sheet
  -- the sheet has as many holding parts as the job
  pub holders : held sheet ≡ inner job
  pub openings : length sheet.positions ≡ length job.openings

-- where each line has its slot, a line's sheet is that of the job at the same place
pub job_here : (hall : Hall) (p : List Bool) (g : Ground) (a : Arrays) (cs : List Course) (e : ℕ) → e < length cs → Each (SlotOf hall p) (lines_from 0 hall.jobs) (slots_at g a 0 cs) → JobHere hall e (course_in cs e).sheet
job_here hall p g a cs e l h =
    let r = line_here hall p g a 0 e hall.jobs cs l h in
    let z : 0 + e ≡ e = omega arith in
    let so = subst (SheetOf r.job) (slot_sheet g a (0 + e) (course_in cs e)) r.slot_of.sheet_of_lem in
    record {
      job = r.job;
      placed = r.placed;
      sheet_of_lem = so;
      holders = ap length so.removals ∙ select-length (map removal_of_lem r.job.parts) r.job.parts (holding r.job) (length-map r.job.parts removal_of_lem);
      openings = ap length so.places ∙ positions_size r.job;
    }
