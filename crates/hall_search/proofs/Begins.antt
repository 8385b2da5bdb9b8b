-- The walk's first node: over lines whose first levels are given it is walked on exactly where the floor is.
use Prim.Native.Nat.{ℕ, zero, suc, ◌+◌, ◌<◌}
use mathlib.Core.Path.{◌≡◌, refl, sym, ap, subst, ◌∙◌}
use mathlib.Core.Bool.{Bool, true, false, cond}
use mathlib.Core.List.{List, [], ◌∷◌}
use Rattle.std.specs.Prelude.{Option, Some, None}
use Rattle.std.proofs.lemmas.Option.{none-some, same_Some}
use native.Mathlib.Omega.{arith}
use borrow.Author.Tests.{le-ltb}
use lib.Dec.{leb}
use lib.ListN.{length}
use Rattle.branch.specs.declared.Bound.{Bound}
use Rattle.branch.specs.declared.Bound.TheVariants.{Missing, Sum}
use Rattle.branch.proofs.Bounds.{no_sum_lem, sum_inj}
use Rattle.model.specs.Model.{Job, Each}
use Rattle.held_rows.specs.Held.{SheetOf}
use Rattle.search_state.specs.declared.Search.{Search}
use Rattle.search_state.specs.State.{no_cost, open_s}
use Rattle.search_state.proofs.Trees.{DueAt, opened}
use Rattle.held_nodes.proofs.Root.{fresh}
use Rattle.hall_model.specs.Hall.{Hall, Placed}
use Rattle.hall_model.specs.Agenda.{Agenda, agenda_of, lines_from}
use Rattle.hall_model.specs.LowerBound.{hall_bound}
use Rattle.hall_model.specs.Steps.{tree_from}
use Rattle.hall_model.proofs.Steps.{tree_bound, stands_root}
use Rattle.hall_nodes.specs.Lines.{lines_sum, HallAt}
use Rattle.hall_nodes.proofs.Bounds.{node_bound}
use Rattle.hall_nodes.proofs.Due.{all_due}
use Rattle.hall_nodes.proofs.Root.{Begins, root_at}
use Rattle.hall_lines.specs.declared.LineTables.{LineTables}
use Rattle.hall_lines.specs.declared.LineRows.{LineRows}
use Rattle.hall_steps.specs.Steps.{level_in}
use Rattle.hall_state.specs.declared.Ground.{Ground}
use Rattle.hall_state.specs.declared.Spot.{Spot}
use Rattle.hall_state.specs.Courses.{Arrays, rows_at, Course, course_in, slots_at}
use Rattle.hall_state.specs.Spots.{left_of, OnCourse, Stood}
use Rattle.hall_state.specs.Moves.{Crewed}
use Rattle.hall_tables.specs.Filled.{Begun, tables_in, LinesFilled}
use Rattle.hall_walk.specs.Walk.{Reaches}
use Rattle.hall_search.specs.Walked.{first_spot, first_by}

-- all is left to ask
abbrev pub all_left : Hall → List Agenda
all_left hall = agenda_of hall ∷ []

-- ---- each line's course

-- a line that has begun is at its first level, with nothing decided
abbrev course_of : {job : Job} {tb : LineTables} {o : LineRows} → Begun job tb o → Course
course_of b = record { sheet = b.1.sheet; blocks = []; paid = 0; at = 0; stop = None }

module _ (g : Ground) (a : Arrays) where
  -- the lines from place j on have begun
  abbrev pub AllBegun : ℕ → List Job → Type 0
  AllBegun j js = (i k : ℕ) (job : Job) → k ≡ j + i → Placed js i job → Begun job (tables_in g.lines k) (rows_at a k)

  -- the first of them has
  first_begun : (j : ℕ) (job : Job) (js : List Job) → AllBegun j (job ∷ js) → Begun job (tables_in g.lines j) (rows_at a j)
  first_begun j job js f = f 0 j job (omega arith) refl

  -- and so have the others
  rest_begun : (j : ℕ) (job : Job) (js : List Job) → AllBegun j (job ∷ js) → AllBegun (suc j) js
  rest_begun j job js f i k x e at = f (suc i) k x (omega (arith, e)) at

  -- their courses
  pub courses : (j : ℕ) (js : List Job) → AllBegun j js → List Course
  courses j [] f = []
  courses j (job ∷ js) f = course_of (first_begun j job js f) ∷ courses (suc j) js (rest_begun j job js f)

  -- a course for each line
  courses_count : (j : ℕ) (js : List Job) (f : AllBegun j js) → length (courses j js f) ≡ length js
  unfolding courses
  courses_count j [] f = refl
  courses_count j (job ∷ js) f = ap suc (courses_count (suc j) js (rest_begun j job js f))

  -- each at its first node
  courses_begin : (j : ℕ) (js : List Job) (f : AllBegun j js) → Each Begins (lines_from j js) (slots_at g a j (courses j js f))
  unfolding lines_from courses
  courses_begin j [] f = tt
  courses_begin j (job ∷ js) f =
      let b = first_begun j job js f in (
        record { sheet_of_lem = b.1.holds; nothing = refl; given = b.1.begun.given b.0 refl },
        courses_begin (suc j) js (rest_begun j job js f),
      )

  -- at the first level, and at no stop
  course_first : (j : ℕ) (js : List Job) (f : AllBegun j js) (e : ℕ) → e < length (courses j js f) → ((course_in (courses j js f) e).at ≡ 0) × ((course_in (courses j js f) e).stop ≡ None)
  unfolding courses
  course_first j [] f e l = absurd (omega (arith, l))
  course_first j (job ∷ js) f zero l = (refl, refl)
  course_first j (job ∷ js) f (suc e) l = course_first (suc j) js (rest_begun j job js f) e (omega (arith, l))

  -- over the sheet of its job
  pub course_holds : (j : ℕ) (js : List Job) (f : AllBegun j js) (i : ℕ) (job : Job) → Placed js i job → SheetOf job (course_in (courses j js f) i).sheet
  unfolding courses first_begun
  course_holds j [] f i job at = absurd at
  course_holds j (x ∷ js) f zero job at = subst (λ (y : Job). SheetOf y (first_begun j x js f).1.sheet) at (first_begun j x js f).1.holds
  course_holds j (x ∷ js) f (suc i) job at = course_holds (suc j) js (rest_begun j x js f) i job at

-- ---- the first node

-- nothing is opened where there is no bound
missing_shut : (limit : ℕ) (s : Search) → open_s limit 0 Missing s ≡ Missing
missing_shut limit s = go (leb limit s.count)
  where
    go : (b : Bool) → cond b Missing Missing ≡ Missing
    go true = refl
    go false = refl

-- by whether the bound is walked on from
first_none : (x : Bound) → first_by x ≡ None → x ≡ Missing
first_none Missing e = refl
first_none (Sum y) e = absurd (none-some (first_spot y) (sym e))

first_some : (x : Bound) (r : Spot) → first_by x ≡ Some r → (y : ℕ) × (x ≡ Sum y) × (r ≡ first_spot y)
first_some Missing r e = absurd (none-some r e)
first_some (Sum y) r e = (y, refl, sym (same_Some (first_spot y) r e))

-- the first node over filled lines: it is reached, over each line's sheet, and the floor is a small number
pub record FirstReached (hall : Hall) (g : Ground) (a : Arrays) (floor : Bound) (limit : ℕ) (masks : List ℕ) (q : Option Spot) : Type 0 where
  -- the lines' courses, where the first node is walked on
  pub cs : List Course
  -- what the walk asks
  pub reaches : Reaches hall g a q [] [] 0 cs masks limit fresh
  -- the whole agenda is left to ask
  pub left : reaches.left ≡ all_left hall
  -- where it is walked on each line's sheet is that of its job
  pub holds : (t : Spot) → q ≡ Some t → (d : ℕ) (job : Job) → Placed hall.jobs d job → SheetOf job (course_in cs d).sheet
  -- no floor comes near the cost of none
  pub fits : (x : ℕ) → floor ≡ Sum x → 0 + x < no_cost

module _ {hall : Hall} (g : Ground) (a : Arrays) (crewed : Crewed hall g.ats) (limit : ℕ) (masks : List ℕ) where
  -- where there is no floor the first node is passed by
  none_reached : hall_bound hall [] ≡ Missing → FirstReached hall g a Missing limit masks (first_by (open_s limit 0 Missing fresh))
  none_reached none =
      let shut = missing_shut limit fresh in
      record {
        cs = [];
        reaches = record {
          crewed = crewed;
          left = all_left hall;
          e = Missing;
          due = 0;
          due_at = record {
            none = λ _. tree_bound (hall_bound hall) (all_left hall) [] ∙ none;
            some = λ x f. absurd (no_sum_lem Missing x refl f);
            fits = λ x f. absurd (no_sum_lem Missing x refl f);
          };
          closed = λ _. shut;
          opened = λ r h. absurd (none-some r (ap first_by (sym shut) ∙ h));
        };
        left = refl;
        holds = λ t h. absurd (none-some t (ap first_by (sym shut) ∙ h));
        fits = λ x h. absurd (no_sum_lem Missing x refl h);
      }

  module _ (lines : (d : ℕ) (job : Job) → Placed hall.jobs d job → Begun job (tables_in g.lines d) (rows_at a d)) where
    all_begun : AllBegun g a 0 hall.jobs
    all_begun i k job e at = let z : i ≡ k = omega (arith, e) in subst (λ (j : ℕ). Begun job (tables_in g.lines j) (rows_at a j)) z (lines i job at)

    abbrev firsts : List Course
    firsts = courses g a 0 hall.jobs all_begun

    first_count : length firsts ≡ length hall.jobs
    first_count = courses_count g a 0 hall.jobs all_begun

    first_at : HallAt hall [] 0 0 (slots_at g a 0 firsts)
    first_at = root_at hall (slots_at g a 0 firsts) (courses_begin g a 0 hall.jobs all_begun)

    -- each line's course is what the first spot says of it
    on_first : (floor e : ℕ) → e < length firsts → OnCourse g.ats (first_spot floor) e (course_in firsts e)
    on_first floor e l =
        let c = course_first g a 0 hall.jobs all_begun e l in
        let level = ap (λ (b : Bool). cond b (level_in g.ats.before 1 e) (level_in g.ats.before 0 e)) (le-ltb e 0 (omega arith)) in
        record { level = c.0 ∙ sym (level ∙ crewed.table.begins e (omega (arith, l, first_count))); stop = c.1 }

    module _ (floor : ℕ) (is : Sum floor ≡ hall_bound hall []) where
      sum_is : floor ≡ 0 + lines_sum (slots_at g a 0 firsts)
      sum_is = sum_inj (hall_bound hall []) floor (0 + lines_sum (slots_at g a 0 firsts)) (sym is) (node_bound hall [] 0 0 (slots_at g a 0 firsts) first_at)

      stood : Stood hall g a (first_spot floor) [] 0 firsts
      stood = record {
        formed = record { call = λ _. (omega arith, refl); line = λ e. cc; removal = λ _ e. cc };
        at = first_at;
        stands = stands_root (agenda_of hall);
        count = first_count;
        courses = on_first floor;
        total = sum_is;
      }

      due_floor : DueAt (tree_from (hall_bound hall) (all_left hall) []) (Sum floor) 0
      due_floor = all_due hall [] 0 0 (slots_at g a 0 firsts) first_at crewed.fits.few (omega arith) (all_left hall) 0 floor (omega (arith, sum_is))

      -- where there is one it is reached, with each line at its first level
      some_reached : FirstReached hall g a (Sum floor) limit masks (first_by (open_s limit 0 (Sum floor) fresh))
      some_reached = record {
        cs = firsts;
        reaches = record {
          crewed = crewed;
          left = all_left hall;
          e = Sum floor;
          due = 0;
          due_at = due_floor;
          closed = first_none (open_s limit 0 (Sum floor) fresh);
          opened = λ r h.
              let o = first_some (open_s limit 0 (Sum floor) fresh) r h in
              let z = sum_inj (Sum floor) o.0 floor (opened due_floor [] limit (λ _. []) fresh o.0 o.1).sums refl in
              let spot = o.2 ∙ ap first_spot z in
              (o.0, o.1, subst (λ (p : Spot). Stood hall g a p [] 0 firsts) (sym spot) stood, ap (left_of hall) spot, λ l. absurd (omega (arith, l)));
        };
        left = refl;
        holds = λ t h d job at. course_holds g a 0 hall.jobs all_begun d job at;
        fits = due_floor.fits;
      }

  -- over lines that are filled the first node is reached
  pub first_reached : (floor : Bound) → LinesFilled hall g.lines a floor → FirstReached hall g a floor limit masks (first_by (open_s limit 0 floor fresh))
  first_reached floor filled = go floor filled.floor filled.each
    where
      go : (r : Bound) → r ≡ hall_bound hall [] → ((f : ℕ) → r ≡ Sum f → (d : ℕ) (job : Job) → Placed hall.jobs d job → Begun job (tables_in g.lines d) (rows_at a d)) → FirstReached hall g a r limit masks (first_by (open_s limit 0 r fresh))
      go Missing e f = none_reached (sym e)
      go (Sum x) e f = some_reached (f x refl) x e
