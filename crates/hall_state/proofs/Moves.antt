-- A line's move: where one line goes on, the hall's node below is that line's next node beside the others.
use Prim.Native.Nat.{ℕ, ◌+◌, ◌<◌, ◌≤◌}
use mathlib.Core.Path.{◌≡◌, refl, sym, ap, subst, ◌∙◌}
use mathlib.Core.Bool.{Bool}
use mathlib.Core.List.{List}
use native.Mathlib.Omega.{arith}
use lib.ListN.{length, set, length-set}
use lib.Seq.{get_or-set_same, get_or-set_other}
use Rattle.branch.specs.declared.Bound.{Bound}
use Rattle.branch.specs.declared.Bound.TheVariants.{Missing, Sum}
use Rattle.branch.specs.Search.{full, snoc}
use Rattle.branch.proofs.Bounds.{sum_inj}
use Rattle.model.specs.Limits.{last_step}
use Rattle.model.specs.Decisions.{concat}
use Rattle.held_rows.specs.Held.{held_bound}
use Rattle.search_state.specs.declared.Search.{Search}
use Rattle.search_state.specs.State.{open_s}
use Rattle.search_state.proofs.Trees.{DueAt}
use Rattle.hall_model.specs.Hall.{Hall}
use Rattle.hall_model.specs.Agenda.{line, agenda_of}
use Rattle.hall_model.specs.LowerBound.{hall_bound}
use Rattle.hall_model.specs.Steps.{Stands, Asks, tree_from}
use Rattle.hall_nodes.specs.Lines.{slot_bound, lines_sum, others_sum, HallAt, Goes, GoesAt}
use Rattle.hall_nodes.proofs.Bounds.{slot_bound_lem}
use Rattle.hall_nodes.proofs.Below.{line_at}
use Rattle.hall_nodes.proofs.Due.{line_due}
use Rattle.hall_nodes.proofs.Kept.{kept_at}
use Rattle.hall_lines.specs.Lines.{OwnDue}
use Rattle.hall_lines.proofs.Lines.{open-sums}
use Rattle.std.specs.Prelude.{Option, Some, None}
use Rattle.hall_lines.specs.declared.LineRows.{LineRows}
use Rattle.hall_state.specs.declared.Ground.{Ground}
use Rattle.hall_state.specs.declared.Question.{Question}
use Rattle.hall_state.specs.declared.Question.TheVariants.{CrewCall, LineStop, PartRemoval}
use Rattle.hall_steps.specs.declared.CrewSteps.{CrewSteps}
use Rattle.hall_state.specs.declared.Spot.{Spot}
use Rattle.hall_state.specs.Courses.{Arrays, rows_at, Course, no_course, course_in, line_slot, slots_at, LineKept, Kept, BestSame, OthersSame}
use Rattle.hall_state.specs.Spots.{left_of, left_below, OnCourse, Formed, asked_in, asked_of, Stood}
use Rattle.hall_state.specs.Moves.{measure_of, Crewed, Opens, Below}
use Rattle.hall_state.proofs.Courses.{at_each, slot_sheet, slot_blocks, untouched_kept, line_goes, all_kept_lem, slot_in, goes_in, others_own, others_goes, bound_kept, sum_kept, line_given}

-- the spot q is the one below p where line d takes the decision x: nothing but that line's course moves
pub record Follows (hall : Hall) (x : Bool) (ats : CrewSteps) (p q : Spot) (d : ℕ) : Type 0 where
  -- the spot below is one of the hall's
  pub formed : Formed hall ats q
  -- as many steps are asked at the spot below as above
  pub asked : asked_of q ≡ asked_of p
  -- what is left to ask at the spot below is what the decision leaves
  pub left : left_of hall q ≡ left_below hall x p
  pub others : (e : ℕ) (c : Course) → (e ≡ d → ⊥) → OnCourse ats p e c → OnCourse ats q e c
  -- less is left to decide at the spot below than above
  pub measure : measure_of q < measure_of p

-- the line's course below
pub record GoesOn (hall : Hall) (x : Bool) (g : Ground) (a' : Arrays) (p q : Spot) (cs : List Course) (d : ℕ) : Type 0 where
  -- the course that the line has at the spot below
  pub course : Course
  pub goes : Goes x (line_slot g a' d (course_in cs d)) (line_slot g a' d course)
  -- the line's sheet is the same below as above
  pub sheet : course.sheet ≡ (course_in cs d).sheet
  -- the line has decided at least as many openings below as above
  pub later : (course_in cs d).at ≤ course.at
  pub on : OnCourse g.ats q d course
  -- the spot below follows where this line takes the decision, and no other line moves
  pub follows : Follows hall x g.ats p q d

-- what a line's move finds: its own node below, tested with the rest of the hall's estimate
pub record LineMoved (hall : Hall) (x : Bool) (g : Ground) (a a' : Arrays) (p : Spot) (q : Option Spot) (cs : List Course) (d limit : ℕ) (s : Search) : Type 0 where
  pub others : OthersSame d a a'
  -- what the moving line stood on is kept in the new arrays
  pub own : LineKept g a a' d (course_in cs d)
  -- the incumbent's removals of the moving line are unmoved
  pub best : BestSame (rows_at a d).v (rows_at a' d).v (course_in cs d).sheet
  -- the part sums of the line's own node below
  pub e : Bound
  -- the line's fees, removals and term below, beyond what it has paid so far
  pub h : ℕ
  -- the hall's estimate without the line's part sums and term
  pub rest : ℕ
  -- the line's own node below has these part sums, with what it has paid and h due
  pub due : OwnDue (course_in cs d).sheet (course_in cs d).blocks x e ((course_in cs d).paid + h)
  -- the rest and the line's estimate above are the spot's total and what the line has paid
  pub rest-is : rest + slot_bound (line_slot g a d (course_in cs d)) ≡ p.total + (course_in cs d).paid
  -- where no spot below is walked on, the code's test of the node finds nothing
  pub closed : q ≡ None → open_s limit (rest + h) e s ≡ Missing
  pub opened : (r : Spot) → q ≡ Some r → (y : ℕ) × (open_s limit (rest + h) e s ≡ Sum y) × (r.total ≡ rest + h + y) × GoesOn hall x g a' p r cs d

-- the steps asked are few
pub asked_near : (hall : Hall) (ats : CrewSteps) (p : Spot) → Crewed hall ats → Formed hall ats p → asked_of p ≤ last_step
asked_near hall ats p t f = go p.asks refl
  where
    go : (q : Question) → p.asks ≡ q → p.step + asked_in q ≤ last_step
    go CrewCall e = omega (arith, t.table.few, (f.call e).0)
    go LineStop e = omega (arith, t.table.few, (f.line e).0)
    go (PartRemoval stop) e = omega (arith, t.table.few, (f.removal stop e).0)

module _ {hall : Hall} {x : Bool} {g : Ground} {a a' : Arrays} {p : Spot} {q : Option Spot} {name : List Bool} {calls : ℕ} {cs : List Course} {d limit : ℕ} {s : Search} (crewed : Crewed hall g.ats) (st : Stood hall g a p name calls cs) (asks : Asks (agenda_of hall) name (line d)) (less : d < length cs)
    (m : LineMoved hall x g a a' p q cs d limit s) where
  abbrev c : Course
  c = course_in cs d

  kept_each : (e : ℕ) → e < length cs → LineKept g a a' e (course_in cs e)
  kept_each = at_each d (λ _. m.own) (λ e z l. untouched_kept g a a' e (course_in cs e) (m.others.same e z) (line_given hall name g a cs e l st.at.lines))

  kept : Kept g a a' cs
  kept = record { size = m.others.size; each = kept_each }

  best_each : (e : ℕ) → e < length cs → BestSame (rows_at a e).v (rows_at a' e).v (course_in cs e).sheet
  best_each = at_each d (λ _. m.best) (λ e z _. subst (λ (o : LineRows). BestSame (rows_at a e).v o.v (course_in cs e).sheet) (sym (m.others.same e z)) (λ i h. refl))

  -- the rest of the estimate is the calls, the other lines and what the line has paid
  rest_others : m.rest ≡ calls + others_sum d (slots_at g a 0 cs) + c.paid
  rest_others = omega (arith, m.rest-is, st.total, others_own d (slots_at g a 0 cs) (line_slot g a d c) (slot_in g a d cs less))

  own_below : held_bound c.sheet (snoc (concat c.blocks) x) ≡ held_bound (line_slot g a d c).sheet (snoc (concat (line_slot g a d c).blocks) x)
  own_below = λ i. held_bound (sym (slot_sheet g a d c) i) (snoc (concat (sym (slot_blocks g a d c) i)) x)

  due_at : DueAt (tree_from (hall_bound hall) (left_below hall x p) (snoc name x)) m.e (m.rest + m.h)
  due_at =
      let z : calls + others_sum d (slots_at g a 0 cs) + (c.paid + m.h) ≡ m.rest + m.h = omega (arith, rest_others) in
      subst (DueAt (tree_from (hall_bound hall) (left_below hall x p) (snoc name x)) m.e) z
      (line_due hall name (asked_of p) calls (slots_at g a 0 cs) st.at crewed.fits.few (asked_near hall g.ats p crewed st.formed) d asks x (line_slot g a d c) (slot_in g a d cs less) (left_below hall x p)
      (full (held_bound c.sheet (snoc (concat c.blocks) x))) m.e (c.paid + m.h)
      (record { none = m.due.none; some = m.due.some; fits = λ y f. omega (arith, m.due.low y f) }) own_below m.due.low)

  module _ {r : Spot} (k : GoesOn hall x g a' p r cs d) (stands : Stands (agenda_of hall) (snoc name x) (left_below hall x p)) (y : ℕ) (f : open_s limit (m.rest + m.h) m.e s ≡ Sum y) (tot : r.total ≡ m.rest + m.h + y) where
    abbrev c' : Course
    c' = k.course

    abbrev cs' : List Course
    cs' = set cs d c'

    here' : course_in cs' d ≡ c'
    here' = get_or-set_same cs d c' no_course less

    less' : d < length cs'
    less' = omega (arith, less, length-set cs d c')

    gone : GoesAt d x (slots_at g a' 0 cs) (slots_at g a' 0 cs')
    gone = goes_in g a' d x cs c' less k.goes

    at_below : HallAt hall (snoc name x) (asked_of r) calls (slots_at g a' 0 cs')
    at_below =
        subst (λ (n : ℕ). HallAt hall (snoc name x) n calls (slots_at g a' 0 cs')) (sym k.follows.asked)
        (line_at hall name d asks x (asked_of p) calls (slots_at g a' 0 cs) (slots_at g a' 0 cs') gone (kept_at hall name (asked_of p) calls (slots_at g a 0 cs) (slots_at g a' 0 cs) (all_kept_lem g a a' cs kept) st.at))

    on_each : (e : ℕ) → e < length cs' → OnCourse g.ats r e (course_in cs' e)
    on_each = at_each d (λ _. subst (OnCourse g.ats r d) (sym here') k.on)
        (λ e z l. subst (OnCourse g.ats r e) (sym (get_or-set_other cs d e c' no_course z)) (k.follows.others e (course_in cs e) z (st.courses e (omega (arith, l, length-set cs d c')))))

    sums_are : m.e ≡ Sum y
    sums_are = open-sums limit (m.rest + m.h) m.e s y due_at.fits f

    own_is : slot_bound (line_slot g a' d c') ≡ c.paid + m.h + y
    own_is =
        let e = slot_bound_lem (line_slot g a' d c') k.goes.given in
        let n : held_bound (line_slot g a' d c').sheet (concat (line_slot g a' d c').blocks) ≡ held_bound c.sheet (snoc (concat c.blocks) x) = (λ i. held_bound ((k.goes.sheet ∙ slot_sheet g a' d c) i) ((k.goes.name ∙ ap (λ (b : List (List Bool)). snoc (concat b) x) (slot_blocks g a' d c)) i)) in
        sum_inj (held_bound (line_slot g a' d c').sheet (concat (line_slot g a' d c').blocks)) (slot_bound (line_slot g a' d c')) (c.paid + m.h + y) e (n ∙ m.due.some y sums_are)

    total_is : r.total ≡ calls + lines_sum (slots_at g a' 0 cs')
    total_is =
        let b = others_goes d x (slots_at g a' 0 cs) (slots_at g a' 0 cs') (line_slot g a' d (course_in cs' d)) gone (slot_in g a' d cs' less') in
        let o = others_own d (slots_at g a' 0 cs) (line_slot g a' d c) (slot_in g a' d cs less) in
        let o' = others_own d (slots_at g a 0 cs) (line_slot g a d c) (slot_in g a d cs less) in
        let n = sum_kept (slots_at g a 0 cs) (slots_at g a' 0 cs) (all_kept_lem g a a' cs kept) in
        let j = bound_kept (line_slot g a d c) (line_slot g a' d c) m.own.slot in
        let i = ap (λ (z : Course). slot_bound (line_slot g a' d z)) here' in
        omega (arith, tot, rest_others, b, o, o', n, j, i, own_is)

    stood_below : Stood hall g a' r (snoc name x) calls cs'
    stood_below = record {
      formed = k.follows.formed;
      at = at_below;
      stands = subst (Stands (agenda_of hall) (snoc name x)) (sym k.follows.left) stands;
      count = length-set cs d c' ∙ st.count;
      courses = on_each;
      total = total_is;
    }

    sheet_each : (e : ℕ) → e < length cs → (course_in cs' e).sheet ≡ (course_in cs e).sheet
    sheet_each = at_each d (λ _. ap (λ (t : Course). t.sheet) here' ∙ k.sheet) (λ e z _. ap (λ (t : Course). t.sheet) (get_or-set_other cs d e c' no_course z))

    kept_below : (a'' : Arrays) → Kept g a' a'' cs' → Kept g a' a'' cs
    kept_below a'' w = record {
      size = w.size;
      each = at_each d (λ _. line_goes g a' a'' d x c c' k.later k.goes (subst (LineKept g a' a'' d) here' (w.each d less')))
          (λ e z l. subst (LineKept g a' a'' e) (get_or-set_other cs d e c' no_course z) (w.each e (omega (arith, l, length-set cs d c'))));
    }

    opens_below : Opens hall x g a a' p r name cs
    opens_below = record {
      calls = calls;
      courses = cs';
      stood = stood_below;
      left = k.follows.left;
      same = record { size = length-set cs d c'; sheet = sheet_each; best = best_each };
      kept = kept_below;
      measure = k.follows.measure;
    }

  -- a line's move finds the hall's node below, tested as the code does, where the decision leaves its agendas
  pub line_below : Stands (agenda_of hall) (snoc name x) (left_below hall x p) → Below hall x g a a' p q name cs limit s
  line_below stands = record {
    e = m.e;
    due = m.rest + m.h;
    due_at = due_at;
    kept = kept;
    same = record { size = refl; sheet = λ e l. refl; best = best_each };
    closed = m.closed;
    opened = λ r t. let o = m.opened r t in (o.0, o.1, opens_below o.3 stands o.0 o.1 o.2);
  }
