-- A stop that is settled: the line is at its next level, and what is kept of that is kept of the stop.
use Prim.Native.Nat.{ℕ, suc, ◌+◌, ◌-◌, ◌<◌, ◌≤◌}
use mathlib.Core.Path.{◌≡◌, refl, sym, ap, subst, ◌∙◌}
use mathlib.Core.Bool.{Bool, cond}
use mathlib.Core.List.{List, [], ◌∷◌}
use Rattle.std.specs.Prelude.{None}
use native.Mathlib.Omega.{arith}
use lib.ListN.{length, set, length-set}
use lib.Seq.{get_or-set_same, get_or-set_other}
use Rattle.branch.proofs.Bounds.{sum_inj}
use Rattle.model.specs.Model.{Job, Each}
use Rattle.model.specs.Decisions.{concat}
use Rattle.held_rows.specs.Held.{SheetOf}
use Rattle.hall_model.specs.Hall.{Hall}
use Rattle.hall_model.specs.Agenda.{Line, lines_from, agenda_of}
use Rattle.hall_model.specs.LowerBound.{hall_bound}
use Rattle.hall_model.specs.Steps.{Stands, tree_from}
use Rattle.hall_nodes.specs.Lines.{Slot, SlotOf, lines_sum, HallAt, SlotKept}
use Rattle.hall_nodes.proofs.Bounds.{node_bound}
use Rattle.hall_lines.specs.Lines.{Decided, LineSettled}
use Rattle.hall_lines.proofs.Levels.{levels_then, stop_same}
use Rattle.hall_steps.specs.Steps.{level_in}
use Rattle.hall_lines.specs.declared.LineRows.{LineRows}
use Rattle.hall_lines.specs.declared.Stop.{Stop}
use Rattle.hall_state.specs.declared.Ground.{Ground}
use Rattle.hall_state.specs.declared.Question.{Question}
use Rattle.hall_state.specs.declared.Question.TheVariants.{PartRemoval}
use Rattle.hall_state.specs.declared.Spot.{Spot}
use Rattle.hall_state.specs.Courses.{Arrays, no_rows, tables_at, rows_at, Course, no_course, course_in, stopped_slot, line_slot, slots_at, LineKept, Kept, BestSame}
use Rattle.hall_state.specs.Spots.{inner_at, line_left, line_spot, left_at, left_of, OnCourse, asked_in, asked_of, Stood}
use Rattle.hall_state.specs.Moves.{measure_of, Crewed, Arrived}
use Rattle.hall_state.proofs.Courses.{at_each, slot_sheet, slot_blocks, line_same, untouched_kept, line_then, line_given}
use Rattle.hall_state.proofs.Stops.{stop_less, stop_four, on_stop, is_stop, stop_given, stop_holds}
use Rattle.hall_state.proofs.Spots.{here_level, elsewhere, past_on, on_past, removal_measure}
use Rattle.hall_moves.proofs.Found.{at_same}

-- each line's slot for another
each_map : (hall : Hall) (p : List Bool) (g : Ground) (a a' : Arrays) (d : ℕ) (jobs : List Job) (cs cs' : List Course) → length cs' ≡ length cs
    → ((e : ℕ) → e < length cs → (ln : Line) → SlotOf hall p ln (line_slot g a (d + e) (course_in cs e)) → SlotOf hall p ln (line_slot g a' (d + e) (course_in cs' e)))
    → Each (SlotOf hall p) (lines_from d jobs) (slots_at g a d cs) → Each (SlotOf hall p) (lines_from d jobs) (slots_at g a' d cs')
unfolding lines_from
each_map hall p g a a' d [] [] [] n f e = tt
each_map hall p g a a' d [] [] (c' ∷ cs') n f e = absurd (omega (arith, n))
each_map hall p g a a' d [] (c ∷ cs) cs' n f e = absurd e
each_map hall p g a a' d (job ∷ jobs) [] cs' n f e = absurd e
each_map hall p g a a' d (job ∷ jobs) (c ∷ cs) [] n f e = absurd (omega (arith, n))
each_map hall p g a a' d (job ∷ jobs) (c ∷ cs) (c' ∷ cs') n f e =
    let z : d + 0 ≡ d = omega arith in
    let ln : Line = record { place = d; job = job } in (
      subst (λ (j : ℕ). SlotOf hall p ln (line_slot g a j c) → SlotOf hall p ln (line_slot g a' j c')) z (f 0 (omega arith) ln) e.0,
      each_map hall p g a a' (suc d) jobs cs cs' (omega (arith, n)) (λ i l m. let y : d + suc i ≡ suc d + i = omega arith in subst (λ (j : ℕ). SlotOf hall p m (line_slot g a j (course_in cs i)) → SlotOf hall p m (line_slot g a' j (course_in cs' i))) y (f (suc i) (omega (arith, l)) m)) e.1,
    )

module _ {hall : Hall} {g : Ground} {a : Arrays} {p : Spot} {name : List Bool} {calls : ℕ} {cs : List Course} {stop : Stop} (crewed : Crewed hall g.ats) (st : Stood hall g a p name calls cs) (er : p.asks ≡ PartRemoval stop) where
  abbrev d : ℕ
  d = p.line

  abbrev c : Course
  c = course_in cs d

  less : d < length cs
  less = stop_less crewed st er

  on : OnCourse g.ats p d c
  on = on_stop crewed st er

  module _ (all : inner_at hall.jobs d ≤ stop.next) {at : ℕ} (is : at ≡ level_in g.ats.before p.step d) where
    -- where no holding part is left to ask, no removal of the line's stop is open, at the step's level
    pub settles : Decided c.sheet c.blocks (tables_at g d) (rows_at a d) at c.paid stop
    settles = subst (λ (x : ℕ). Decided c.sheet c.blocks (tables_at g d) (rows_at a d) x c.paid stop) (here_level on ∙ sym is) (record { given = stop_given crewed st er; all = omega (arith, all, stop_holds crewed st er) })

    module _ (size : length a ≡ 4) (o₁ : LineRows) (found : LineSettled c.sheet c.blocks (tables_at g d) (rows_at a d) o₁ at c.paid stop) where
      abbrev a₁ : Arrays
      a₁ = set a d o₁

      found₁ : LineSettled c.sheet c.blocks (tables_at g d) (rows_at a d) (rows_at a₁ d) c.at c.paid stop
      found₁ =
          subst (λ (o : LineRows). LineSettled c.sheet c.blocks (tables_at g d) (rows_at a d) o c.at c.paid stop) (sym (at_same a d o₁ size (stop_four crewed st er)))
          (subst (λ (x : ℕ). LineSettled c.sheet c.blocks (tables_at g d) (rows_at a d) o₁ x c.paid stop) (is ∙ sym (here_level on)) found)

      abbrev c₁ : Course
      c₁ = record { sheet = c.sheet; blocks = c.blocks; paid = c.paid; at = c.at + 1; stop = None }

      abbrev cs₁ : List Course
      cs₁ = set cs d c₁

      abbrev m : Spot
      m = line_spot p (d + 1) p.total

      here₁ : course_in cs₁ d ≡ c₁
      here₁ = get_or-set_same cs d c₁ no_course less

      other : (e : ℕ) (x : Course) → (e ≡ d → ⊥) → line_slot g a₁ e x ≡ line_slot g a e x
      other e x z = line_same g a a₁ e x (get_or-set_other a d e o₁ no_rows z)

      slot_one : (ln : Line) → SlotOf hall name ln (line_slot g a d c) → SlotOf hall name ln (line_slot g a₁ d c₁)
      slot_one ln h = record { sheet_of_lem = subst (SheetOf ln.job) (slot_sheet g a d c) h.sheet_of_lem; name = h.name ∙ ap concat (slot_blocks g a d c); given = found₁.given }

      slot_each : (e : ℕ) → e < length cs → (ln : Line) → SlotOf hall name ln (line_slot g a e (course_in cs e)) → SlotOf hall name ln (line_slot g a₁ e (course_in cs₁ e))
      slot_each = at_each d (λ _ ln h. subst (λ (x : Course). SlotOf hall name ln (line_slot g a₁ d x)) (sym here₁) (slot_one ln h))
          (λ e z _ ln h. subst (λ (x : Course). SlotOf hall name ln (line_slot g a₁ e x)) (sym (get_or-set_other cs d e c₁ no_course z)) (subst (SlotOf hall name ln) (sym (other e (course_in cs e) z)) h))

      at₁ : HallAt hall name (asked_of p) calls (slots_at g a₁ 0 cs₁)
      at₁ = record {
        called = st.at.called;
        poor = st.at.poor;
        lines = each_map hall name g a a₁ 0 hall.jobs cs cs₁ (length-set cs d c₁) (λ e l ln. let z : e ≡ 0 + e = omega arith in subst (λ (j : ℕ). SlotOf hall name ln (line_slot g a j (course_in cs e)) → SlotOf hall name ln (line_slot g a₁ j (course_in cs₁ e))) z (slot_each e l ln)) st.at.lines;
      }

      sum₁ : calls + lines_sum (slots_at g a₁ 0 cs₁) ≡ calls + lines_sum (slots_at g a 0 cs)
      sum₁ = sum_inj (hall_bound hall name) (calls + lines_sum (slots_at g a₁ 0 cs₁)) (calls + lines_sum (slots_at g a 0 cs)) (node_bound hall name (asked_of p) calls (slots_at g a₁ 0 cs₁) at₁) (node_bound hall name (asked_of p) calls (slots_at g a 0 cs) st.at)

      left₁ : left_of hall p ≡ left_of hall m
      left₁ = let z : inner_at hall.jobs d - stop.next ≡ 0 = omega (arith, all) in ap (left_at hall p.step d) er ∙ ap (λ (x : ℕ). line_left hall p.step x (d + 1)) z

      up : level_in g.ats.before (p.step + 1) d ≡ level_in g.ats.before p.step d + 1
      up = let f = st.formed.removal stop er in crewed.table.rises p.step d f.0 f.1 ∙ ap (λ (b : Bool). level_in g.ats.before p.step d + cond b 1 0) f.2

      on₁ : (e : ℕ) → e < length cs₁ → OnCourse g.ats m e (course_in cs₁ e)
      on₁ = at_each d (λ _. subst (OnCourse g.ats m d) (sym here₁) (on_past p.total on up c₁ refl refl))
          (λ e z l. let o = st.courses e (omega (arith, l, length-set cs d c₁)) in subst (OnCourse g.ats m e) (sym (get_or-set_other cs d e c₁ no_course z)) (past_on p.total z o (elsewhere er z o)))

      -- the node with the stop settled stands at the spot of the lines from the next place on
      pub settled_stood : Stood hall g a₁ m name calls cs₁
      settled_stood = record {
        formed = record { call = λ e. cc; line = λ _. ((st.formed.removal stop er).0, omega (arith, (st.formed.removal stop er).1)); removal = λ _ e. cc };
        at = subst (λ (x : ℕ). HallAt hall name x calls (slots_at g a₁ 0 cs₁)) (ap (λ (q : Question). p.step + asked_in q) er) at₁;
        stands = subst (Stands (agenda_of hall) name) left₁ st.stands;
        count = length-set cs d c₁ ∙ st.count;
        courses = on₁;
        total = omega (arith, st.total, sum₁);
      }

      best₁ : (e : ℕ) → e < length cs → BestSame (rows_at a e).v (rows_at a₁ e).v (course_in cs e).sheet
      best₁ = at_each d (λ _. found₁.best) (λ e z _. subst (λ (o : LineRows). BestSame (rows_at a e).v o.v (course_in cs e).sheet) (sym (get_or-set_other a d e o₁ no_rows z)) (λ i h. refl))

      sheet₁ : (e : ℕ) → e < length cs → (course_in cs₁ e).sheet ≡ (course_in cs e).sheet
      sheet₁ = at_each d (λ _. ap (λ (x : Course). x.sheet) here₁) (λ e z _. ap (λ (x : Course). x.sheet) (get_or-set_other cs d e c₁ no_course z))

      own_kept : (a'' : Arrays) → LineKept g a₁ a'' d c₁ → LineKept g a a'' d c
      own_kept a'' k =
          let lv = levels_then (rows_at a d).n (rows_at a₁ d).n (rows_at a'' d).n (c.at + 1) (c.at + 1 + 1) (omega arith) found₁.levels k.levels in
          let s = found₁.kept (line_slot g a'' d c₁) k.slot in
          record {
            slot = subst (λ (x : Slot). SlotKept x (line_slot g a'' d c)) (sym (is_stop crewed st er a)) (subst (SlotKept (stopped_slot g a d c stop)) (sym (is_stop crewed st er a'' ∙ stop_same c.sheet c.blocks (tables_at g d) (rows_at a d) (rows_at a'' d) c.at c.paid stop lv)) s);
            levels = lv;
          }

      kept₁ : (a'' : Arrays) → Kept g a₁ a'' cs₁ → Kept g a a'' cs
      kept₁ a'' k = record {
        size = k.size ∙ length-set a d o₁;
        each = at_each d (λ _. own_kept a'' (subst (LineKept g a₁ a'' d) here₁ (k.each d (omega (arith, less, length-set cs d c₁)))))
            (λ e z l.
            line_then g a a₁ a'' e (course_in cs e) (untouched_kept g a a₁ e (course_in cs e) (get_or-set_other a d e o₁ no_rows z) (line_given hall name g a cs e l st.at.lines))
            (subst (LineKept g a₁ a'' e) (get_or-set_other cs d e c₁ no_course z) (k.each e (omega (arith, l, length-set cs d c₁)))));
      }

      measure₁ : measure_of m ≤ measure_of p
      measure₁ = omega (arith, removal_measure st.formed er, stop_four crewed st er)

      -- a stop is settled, and the walk goes on from there to the next question
      pub settled_arrived : {q : Spot} → Arrived hall g a₁ a₁ m q name calls cs₁ → Arrived hall g a a₁ p q name calls cs
      settled_arrived {q} r = record {
        courses = r.courses;
        stood = r.stood;
        asked = r.asked;
        tree = ap (λ l. tree_from (hall_bound hall) l name) left₁ ∙ r.tree;
        same = record {
          size = r.same.size ∙ length-set cs d c₁;
          sheet = λ e l. r.same.sheet e (omega (arith, l, length-set cs d c₁)) ∙ sheet₁ e l;
          best = λ e l. best₁ e l;
        };
        kept = λ a'' k. kept₁ a'' (r.kept a'' k);
        measure = omega (arith, r.measure, measure₁);
      }
