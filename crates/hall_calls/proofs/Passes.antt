-- One line passes the step: nothing if it is not open there, else its own no.
use Prim.Native.Nat.{ℕ, suc, ◌+◌, ◌*◌, ◌<◌, ◌≤◌}
use mathlib.Core.Path.{◌≡◌, refl, sym, ap, subst, ◌∙◌}
use mathlib.Core.Bool.{Bool, true, false, cond, false≢true}
use mathlib.Core.List.{List, [], ◌∷◌, ◌++◌}
use Rattle.std.specs.Prelude.{Option, Some, None}
use native.Mathlib.Omega.{arith}
use native.Mathlib.Decide.{dec_lt}
use borrow.Author.Tests.{lt-ltb}
use lib.ListN.{length, set, length-set}
use lib.Seq.{get_or-set_same, get_or-set_other}
use Rattle.branch.specs.declared.Bound.{Bound}
use Rattle.branch.specs.declared.Bound.TheVariants.{Missing, Sum}
use Rattle.branch.specs.Search.{snoc}
use Rattle.branch.proofs.Bounds.{no_sum_lem, sum_inj}
use Rattle.model.specs.Decisions.{concat}
use Rattle.model.specs.LowerBound.{bound_of}
use Rattle.lane_rows.specs.Tables.{sum_where}
use Rattle.held_rows.specs.Held.{SheetOf, held_bound}
use Rattle.held_rows.proofs.Sheets.{held_bound_lem}
use Rattle.search_state.specs.State.{no_cost, open_s}
use Rattle.held_nodes.proofs.Root.{fresh}
use Rattle.hall_model.specs.Hall.{Hall}
use Rattle.hall_model.specs.Agenda.{Line, name_for}
use Rattle.hall_model.specs.LowerBound.{line_bound, hall_bound}
use Rattle.hall_model.proofs.Steps.{no_call_name}
use Rattle.hall_nodes.specs.Lines.{Slot, Given, slot_bound, lines_sum, others_sum, Goes, SlotKept}
use Rattle.hall_nodes.proofs.Bounds.{slot_most, slot_bound_lem, slot_most_lem}
use Rattle.hall_nodes.proofs.Due.{line_missing}
use Rattle.hall_nodes.proofs.Kept.{kept_at}
use Rattle.hall_lines.specs.Levels.{sums_in, term_in}
use Rattle.hall_lines.specs.Room.{roomy}
use Rattle.hall_lines.specs.Lines.{Opening, NoFound}
use Rattle.hall_lines.proofs.Lines.{open-sums}
use Rattle.hall_steps.specs.Steps.{level_in, open_in}
use Rattle.hall_steps.specs.Table.{step_at}
use Rattle.hall_lines.specs.declared.LineRows.{LineRows}
use Rattle.hall_lines.specs.declared.Stop.{Stop}
use Rattle.hall_state.specs.declared.Ground.{Ground}
use Rattle.hall_state.specs.declared.Question.TheVariants.{CrewCall}
use Rattle.hall_state.specs.declared.Spot.{Spot}
use Rattle.hall_state.specs.Courses.{Arrays, no_rows, tables_at, rows_at, Course, no_course, course_in, level_slot, slot_by, line_slot, slots_at, LineKept, Kept}
use Rattle.hall_state.specs.Spots.{asked_of}
use Rattle.hall_state.proofs.Courses.{at_each, each_slots, sum_by, slot_sheet, slot_blocks, line_same, untouched_kept, all_then, all_kept_lem, slot_in, goes_in, others_own, others_goes, bound_kept, sum_kept, line_given, line_here, job_here}
use Rattle.hall_state.proofs.Moves.{asked_near}
use Rattle.hall_state.proofs.Spots.{cond_no, cond_yes}
use Rattle.hall_moves.specs.Asks.{Asking}
use Rattle.hall_moves.proofs.Found.{at_same}
use Rattle.hall_calls.specs.Calls.{none_of_lem, pass_of, Passing}
use Rattle.hall_calls.proofs.Calls.{at-step, no_stop, asks_call, self_all}

-- a question stays what it was where its lines are kept
pub asking_kept : {hall : Hall} {g : Ground} {a a' : Arrays} {p : Spot} {name : List Bool} {calls : ℕ} {cs : List Course} → Kept g a a' cs → Asking hall g a p name calls cs → Asking hall g a' p name calls cs
asking_kept {hall} {g} {a} {a'} {p} {name} {calls} {cs} r k =
    let st = k.stood in
    record {
      crewed = k.crewed;
      stood = record {
        formed = st.formed;
        at = kept_at hall name (asked_of p) calls (slots_at g a 0 cs) (slots_at g a' 0 cs) (all_kept_lem g a a' cs r) st.at;
        stands = st.stands;
        count = st.count;
        courses = st.courses;
        total = st.total ∙ (let z = sum_kept (slots_at g a 0 cs) (slots_at g a' 0 cs) (all_kept_lem g a a' cs r) in omega (arith, z));
      };
      asked = k.asked;
    }

sum_most : (g : Ground) (a : Arrays) (d : ℕ) (cs : List Course) → ((e : ℕ) → e < length cs → slot_bound (line_slot g a (d + e) (course_in cs e)) ≤ slot_most) → lines_sum (slots_at g a d cs) ≤ length cs * slot_most
sum_most g a d [] f = omega arith
sum_most g a d (c ∷ cs) f =
    let z : d + 0 ≡ d = omega arith in
    let y = subst (λ (j : ℕ). slot_bound (line_slot g a j c) ≤ slot_most) z (f 0 (omega arith)) in
    let x = sum_most g a (suc d) cs (λ e l. let i : d + suc e ≡ suc d + e = omega arith in subst (λ (j : ℕ). slot_bound (line_slot g a j (course_in cs e)) ≤ slot_most) i (f (suc e) (omega (arith, l)))) in
    omega (arith, x, y)

-- the first test of all fails only where there is no bound
fresh_missing : (due : ℕ) (e : Bound) → ((x : ℕ) → e ≡ Sum x → due + x < no_cost) → open_s 1 due e fresh ≡ Missing → e ≡ Missing
fresh_missing due Missing fits f = refl
fresh_missing due (Sum x) fits f = absurd (no_sum_lem (Sum x) x (sym (ap (λ (b : Bool). cond b (Sum x) Missing) (lt-ltb (due + x) no_cost (fits x refl))) ∙ f) refl)

module _ {hall : Hall} {g : Ground} {a₀ a : Arrays} {p : Spot} {name : List Bool} {calls : ℕ} {cs : List Course} (k₀ : Asking hall g a₀ p name calls cs) (ec : p.asks ≡ CrewCall) {d total : ℕ} (r : Passing g a₀ a p.step calls cs d total) (less : d < length cs) where
  abbrev k : Asking hall g a p name calls cs
  k = asking_kept r.kept k₀

  abbrev c : Course
  c = course_in cs d

  abbrev ds : List Course
  ds = r.courses

  -- the estimate so far is small
  low_each : (e : ℕ) → e < length ds → slot_bound (line_slot g a e (course_in ds e)) ≤ slot_most
  low_each e l = go (dec_lt e d)
    where
      here : e < length cs
      here = omega (arith, l, r.size)

      by : (b : Bool) → open_in g.ats.before p.step e ≡ b → e < d → slot_bound (line_slot g a e (pass_of b (course_in cs e))) ≤ slot_most
      by true f h = slot_most_lem (line_slot g a e (none_of_lem (course_in cs e))) (r.goes e h f).given
      by false f h = slot_most_lem (line_slot g a e (course_in cs e)) (line_given hall name g a cs e here k.stood.at.lines)

      go : Dec (e < d) → slot_bound (line_slot g a e (course_in ds e)) ≤ slot_most
      go (yes h) = subst (λ (x : Course). slot_bound (line_slot g a e x) ≤ slot_most) (sym (r.done e h)) (by (open_in g.ats.before p.step e) refl h)
      go (no h) = subst (λ (x : Course). slot_bound (line_slot g a e x) ≤ slot_most) (sym (r.rest e (omega (arith, h)))) (slot_most_lem (line_slot g a e (course_in cs e)) (line_given hall name g a cs e here k.stood.at.lines))

  total_low : total ≤ 71000000000
  total_low =
      let z = sum_most g a 0 ds (λ e l. let m : e ≡ 0 + e = omega arith in subst (λ (j : ℕ). slot_bound (line_slot g a j (course_in ds e)) ≤ slot_most) m (low_each e l)) in
      omega (arith, z, r.size, k.stood.count, k.crewed.fits.few, r.total_is, k.stood.at.poor, asked_near hall g.ats p k.crewed k.stood.formed)

  -- what is within the hall's estimate so far is small, so what a line can add to it fits
  pub pass_room : (rest : ℕ) → rest ≤ total → roomy rest
  pass_room rest l = omega (arith, l, total_low)

  -- it is not open there
  pub pass_shut : open_in g.ats.before p.step d ≡ false → Passing g a₀ a p.step calls cs (d + 1) total
  pass_shut f = record {
    kept = r.kept;
    aside = r.aside;
    courses = ds;
    size = r.size;
    done = at_each d (λ _. r.rest d (omega arith) ∙ sym (cond_no (none_of_lem c) c f)) (λ e z l. r.done e (omega (arith, l, z)));
    rest = λ e l. r.rest e (omega (arith, l));
    rows = λ e l. r.rows e (omega (arith, l));
    goes = at_each d (λ _ h. absurd (false≢true (sym f ∙ h))) (λ e z l h. r.goes e (omega (arith, l, z)) h);
    total_is = r.total_is;
  }

  -- it is open there
  module _ (o : open_in g.ats.before p.step d ≡ true) where
    at_level : c.at ≡ level_in g.ats.before p.step d
    at_level = at-step k ec d c (k.stood.courses d less)

    is_level : (b : Arrays) → line_slot g b d c ≡ level_slot g b d c
    is_level b = ap (λ (t : Option Stop). slot_by t g b d c) (no_stop k ec d c (k.stood.courses d less))

    opening : Opening c.sheet c.blocks (tables_at g d) (rows_at a d) c.at c.paid
    opening =
        let j = job_here hall name g a cs d less k.stood.at.lines in
        let up = k.crewed.table.within (p.step + 1) d j.job (omega (arith, k.asked.call ec)) j.placed in
        let one = k.crewed.table.rises p.step d (k.asked.call ec) (omega (arith, less, k.stood.count)) ∙ ap (λ (b : Bool). level_in g.ats.before p.step d + cond b 1 0) o in
        record {
          given = subst Given (is_level a) (line_given hall name g a cs d less k.stood.at.lines);
          less = omega (arith, up, j.openings, at_level, one);
        }

    module _ {at : ℕ} (is : at ≡ level_in g.ats.before p.step d) where
      -- an opening is left to a line that is open at the step
      pub pass_opening : Opening c.sheet c.blocks (tables_at g d) (rows_at a d) at c.paid
      pass_opening = subst (λ (x : ℕ). Opening c.sheet c.blocks (tables_at g d) (rows_at a d) x c.paid) (at_level ∙ sym is) opening

      -- the level of a line that is open at the step is below 64
      pub pass_near : at < 64
      pass_near = omega (arith, pass_opening.less, pass_opening.given.tables.few)

      -- its own estimate is within the whole
      own_bound : slot_bound (line_slot g a d c) ≡ c.paid + sums_in (rows_at a d).n at + term_in (rows_at a d).n at
      own_bound = ap slot_bound (is_level a) ∙ ap (λ (x : ℕ). c.paid + sums_in (rows_at a d).n x + term_in (rows_at a d).n x) (at_level ∙ sym is)

      own_part : others_sum d (slots_at g a 0 ds) + slot_bound (line_slot g a d c) ≡ lines_sum (slots_at g a 0 ds)
      own_part = subst (λ (x : Course). others_sum d (slots_at g a 0 ds) + slot_bound (line_slot g a d x) ≡ lines_sum (slots_at g a 0 ds)) (r.rest d (omega arith)) (others_own d (slots_at g a 0 ds) (line_slot g a d (course_in ds d)) (slot_in g a d ds (omega (arith, less, r.size))))

      -- the part sums and the term of a line that is open at the step are within the hall's estimate so far
      pub pass_within : sums_in (rows_at a d).n at + term_in (rows_at a d).n at ≤ total
      pass_within = omega (arith, own_bound, own_part, r.total_is)

      module _ (size : length a ≡ 4) (four : d < 4) (rest : ℕ) (b : Option ℕ) (rest-is : rest + (sums_in (rows_at a d).n at + term_in (rows_at a d).n at) ≡ total) (o₁ : LineRows)
          (found : NoFound c.sheet c.blocks (tables_at g d) (rows_at a d) o₁ at c.paid 1 rest fresh b) where
        abbrev a₁ : Arrays
        a₁ = set a d o₁

        found₁ : NoFound c.sheet c.blocks (tables_at g d) (rows_at a d) (rows_at a₁ d) c.at c.paid 1 rest fresh b
        found₁ =
            subst (λ (o : LineRows). NoFound c.sheet c.blocks (tables_at g d) (rows_at a d) o c.at c.paid 1 rest fresh b) (sym (at_same a d o₁ size four))
            (subst (λ (x : ℕ). NoFound c.sheet c.blocks (tables_at g d) (rows_at a d) o₁ x c.paid 1 rest fresh b) (is ∙ sym at_level) found)

        own_kept : LineKept g a a₁ d c
        own_kept = record {
          slot = subst (λ (x : Slot). SlotKept x (line_slot g a₁ d c)) (sym (is_level a)) (subst (SlotKept (level_slot g a d c)) (sym (is_level a₁)) found₁.kept);
          levels = found₁.levels;
        }

        -- another line is untouched
        other : (e : ℕ) (x : Course) → (e ≡ d → ⊥) → line_slot g a₁ e x ≡ line_slot g a e x
        other e x z = line_same g a a₁ e x (get_or-set_other a d e o₁ no_rows z)

        kept_one : (e : ℕ) → e < length cs → LineKept g a a₁ e (course_in cs e)
        kept_one = at_each d (λ _. own_kept) (λ e z l. untouched_kept g a a₁ e (course_in cs e) (get_or-set_other a d e o₁ no_rows z) (line_given hall name g a cs e l k.stood.at.lines))

        -- all lines are kept from the first arrays to those with this line's no written
        pub pass_kept : Kept g a₀ a₁ cs
        pass_kept = all_then g a₀ a a₁ cs r.kept (record { size = length-set a d o₁; each = kept_one })

        -- what stands beside the rows is not written
        pub pass_aside : (e : ℕ) → (rows_at a₁ e).v ≡ (rows_at a₀ e).v
        pass_aside = at_each d (found₁.aside ∙ r.aside d) (λ e q. ap (λ (o : LineRows). o.v) (get_or-set_other a d e o₁ no_rows q) ∙ r.aside e)

        -- sums stay small
        fits : (x : ℕ) → sum_where found₁.h found₁.y ≡ Sum x → rest + found₁.h + x < no_cost
        fits x e = omega (arith, found₁.due.low x e, rest-is, total_low)

        -- its own node below has no bound, and so the hall's has none
        pub pass_none : b ≡ None → hall_bound hall (snoc name false) ≡ Missing
        pass_none f =
            let j = line_here hall name g a 0 d hall.jobs cs less k.stood.at.lines in
            let ln : Line = record { place = 0 + d; job = j.job } in
            let e = fresh_missing (rest + found₁.h) (sum_where found₁.h found₁.y) fits (found₁.answers.closed f) in
            let op = k.crewed.table.tells p.step (k.asked.call ec) d j.job j.placed ∙ o in
            let nm = no_call_name hall name (step_at hall p.step) (asks_call k ec) ln ∙ ap (λ (y : Bool). name_for hall ln name ++ cond y (false ∷ []) []) op ∙ ap (λ (l : List Bool). snoc l false) (j.slot_of.name ∙ ap concat (slot_blocks g a (0 + d) c)) in
            let so = subst (SheetOf j.job) (slot_sheet g a (0 + d) c) j.slot_of.sheet_of_lem in
            let lb : line_bound hall ln (snoc name false) ≡ Missing = ap (bound_of j.job) nm ∙ sym (held_bound_lem j.job c.sheet so (snoc (concat c.blocks) false)) ∙ found₁.due.none e in
            let z : 0 + d ≡ d = omega arith in
            line_missing hall (snoc name false) d j.job j.placed (ap (λ (n : ℕ). line_bound hall (record { place = n; job = j.job }) (snoc name false)) (sym z) ∙ lb)

        module _ (z : ℕ) (f : b ≡ Some z) where
          abbrev y : ℕ
          y = (found₁.answers.opened z f).0

          gone : Goes false (line_slot g a₁ d c) (line_slot g a₁ d (none_of_lem c))
          gone = subst (λ (x : Slot). Goes false x (line_slot g a₁ d (none_of_lem c))) (sym (is_level a₁)) (found₁.goes z f)

          own_is : slot_bound (line_slot g a₁ d (none_of_lem c)) ≡ c.paid + found₁.h + y
          own_is =
              let e = slot_bound_lem (line_slot g a₁ d (none_of_lem c)) gone.given in
              let t = open-sums 1 (rest + found₁.h) (sum_where found₁.h found₁.y) fresh y fits (found₁.answers.opened z f).1 in
              let n : held_bound (line_slot g a₁ d (none_of_lem c)).sheet (concat (line_slot g a₁ d (none_of_lem c)).blocks) ≡ held_bound c.sheet (snoc (concat c.blocks) false) =
              (λ i. held_bound ((gone.sheet ∙ slot_sheet g a₁ d c) i) ((gone.name ∙ ap (λ (l : List (List Bool)). snoc (concat l) false) (slot_blocks g a₁ d c)) i)) in
              sum_inj (held_bound (line_slot g a₁ d (none_of_lem c)).sheet (concat (line_slot g a₁ d (none_of_lem c)).blocks)) (slot_bound (line_slot g a₁ d (none_of_lem c))) (c.paid + found₁.h + y) e (n ∙ found₁.due.some y t)

          abbrev ds₁ : List Course
          ds₁ = set ds d (none_of_lem c)

          long : d < length ds
          long = omega (arith, less, r.size)

          same_sum : lines_sum (slots_at g a₁ 0 ds) ≡ lines_sum (slots_at g a 0 ds)
          same_sum =
              sum_by (λ s s' e. e) (slots_at g a 0 ds) (slots_at g a₁ 0 ds)
              (each_slots g (λ (s s' : Slot). slot_bound s' ≡ slot_bound s) a a₁ ds ds refl
              (at_each d (λ _. subst (λ (x : Course). slot_bound (line_slot g a₁ d x) ≡ slot_bound (line_slot g a d x)) (sym (r.rest d (omega arith))) (bound_kept (line_slot g a d c) (line_slot g a₁ d c) own_kept.slot))
              (λ e q _. ap slot_bound (other e (course_in ds e) q))))

          total_now : z ≡ calls + lines_sum (slots_at g a₁ 0 ds₁)
          total_now =
              let goes-ds = subst (λ (x : Course). Goes false (line_slot g a₁ d x) (line_slot g a₁ d (none_of_lem c))) (sym (r.rest d (omega arith))) gone in
              let m = others_goes d false (slots_at g a₁ 0 ds) (slots_at g a₁ 0 ds₁) (line_slot g a₁ d (course_in ds₁ d)) (goes_in g a₁ d false ds (none_of_lem c) long goes-ds) (slot_in g a₁ d ds₁ (omega (arith, long, length-set ds d (none_of_lem c)))) in
              let i = ap (λ (x : Course). slot_bound (line_slot g a₁ d x)) (get_or-set_same ds d (none_of_lem c) no_course long) in
              let u = subst (λ (x : Course). others_sum d (slots_at g a₁ 0 ds) + slot_bound (line_slot g a₁ d x) ≡ lines_sum (slots_at g a₁ 0 ds)) (r.rest d (omega arith)) (others_own d (slots_at g a₁ 0 ds) (line_slot g a₁ d (course_in ds d)) (slot_in g a₁ d ds long)) in
              let v = bound_kept (line_slot g a d c) (line_slot g a₁ d c) own_kept.slot in
              omega (arith, m, i, u, v, same_sum, own_is, own_bound, rest-is, r.total_is, (found₁.answers.opened z f).2)

          -- where the line's own no finds a total, one line more has passed the step, with that total
          pub pass_some : Passing g a₀ a₁ p.step calls cs (d + 1) z
          pass_some = record {
            kept = pass_kept;
            aside = pass_aside;
            courses = ds₁;
            size = length-set ds d (none_of_lem c) ∙ r.size;
            done = at_each d (λ _. get_or-set_same ds d (none_of_lem c) no_course long ∙ sym (cond_yes (none_of_lem c) c o)) (λ e q l. get_or-set_other ds d e (none_of_lem c) no_course q ∙ r.done e (omega (arith, l, q)));
            rest = λ e l. get_or-set_other ds d e (none_of_lem c) no_course (λ q. absurd (omega (arith, q, l))) ∙ r.rest e (omega (arith, l));
            rows = λ e l. get_or-set_other a d e o₁ no_rows (λ i. absurd (omega (arith, i, l))) ∙ r.rows e (omega (arith, l));
            goes = at_each d (λ _ _. gone)
                (λ e q l h.
                subst (λ (x : Slot). Goes false x (line_slot g a₁ e (none_of_lem (course_in cs e)))) (sym (other e (course_in cs e) q))
                (subst (Goes false (line_slot g a e (course_in cs e))) (sym (other e (none_of_lem (course_in cs e)) q)) (r.goes e (omega (arith, l, q)) h)));
            total_is = total_now;
          }

-- no line has passed yet
pub pass_begin : {hall : Hall} {g : Ground} {a : Arrays} {p : Spot} {name : List Bool} {calls : ℕ} {cs : List Course} → Asking hall g a p name calls cs → p.asks ≡ CrewCall → Passing g a a p.step calls cs 0 p.total
pass_begin {hall} {g} {a} {p} {name} {calls} {cs} k ec = record {
  kept = self_all k ec;
  aside = λ e. refl;
  courses = cs;
  size = refl;
  done = λ e l. absurd (omega (arith, l));
  rest = λ e l. refl;
  rows = λ e l. refl;
  goes = λ e l. absurd (omega (arith, l));
  total_is = k.stood.total;
}
