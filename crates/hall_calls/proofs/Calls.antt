-- A call and no call, as the nodes below the hall's.
use Prim.Native.Nat.{ℕ, suc, ◌+◌, ◌-◌, ◌*◌, ◌<◌}
use mathlib.Core.Path.{◌≡◌, refl, sym, ap, subst, ◌∙◌}
use mathlib.Core.Bool.{Bool, true, false, cond}
use mathlib.Core.List.{List, [], ◌∷◌}
use Rattle.std.specs.Prelude.{Some, None}
use Rattle.std.proofs.lemmas.Option.{none-some, same_Some}
use native.Mathlib.Omega.{arith}
use borrow.Author.Tests.{le-ltb}
use lib.Dec.{ltb, leb, eqb}
use lib.ListN.{length}
use Rattle.branch.specs.declared.Bound.{Bound}
use Rattle.branch.specs.declared.Bound.TheVariants.{Missing, Sum}
use Rattle.branch.specs.Search.{snoc}
use Rattle.branch.proofs.Bounds.{no_sum_lem}
use Rattle.model.specs.Model.{Job}
use Rattle.search_state.specs.declared.Search.{Search}
use Rattle.search_state.specs.State.{open_s}
use Rattle.search_state.proofs.Trees.{DueAt}
use Rattle.hall_model.specs.Hall.{Hall, Placed, open_at}
use Rattle.hall_model.specs.Agenda.{crew, agenda_of}
use Rattle.hall_model.specs.LowerBound.{hall_bound}
use Rattle.hall_model.specs.Steps.{Stands, Asks, tree_from}
use Rattle.hall_model.proofs.Steps.{tree_bound}
use Rattle.hall_nodes.specs.Lines.{HallAt, NoIf, NoneGo}
use Rattle.hall_nodes.proofs.Below.{call_at, no_call_at}
use Rattle.hall_nodes.proofs.Due.{all_due}
use Rattle.hall_nodes.proofs.Kept.{kept_at}
use Rattle.hall_steps.specs.Steps.{level_in, open_in}
use Rattle.hall_steps.specs.Table.{step_at}
use Rattle.hall_state.specs.declared.Ground.{Ground}
use Rattle.hall_state.specs.declared.Question.{Question}
use Rattle.hall_state.specs.declared.Question.TheVariants.{CrewCall}
use Rattle.hall_state.specs.declared.Spot.{Spot}
use Rattle.hall_state.specs.Courses.{Arrays, rows_at, Course, course_in, line_slot, slots_at, LineKept, Kept, BestSame}
use Rattle.hall_state.specs.Spots.{line_spot, call_spot, below_at, left_below, level_of, stop_by, OnCourse, Formed, asked_in, asked_of}
use Rattle.hall_state.specs.Moves.{measure_in, measure_of, SameCourses, Opens, Below}
use Rattle.hall_state.proofs.Courses.{same_self, self_kept, line_goes, all_kept_lem, line_given}
use Rattle.hall_state.proofs.Left.{topic_at, raised, raised_asks}
use Rattle.hall_state.proofs.Moves.{asked_near}
use Rattle.hall_state.proofs.Spots.{cond_no}
use Rattle.hall_moves.specs.Asks.{Asking}
use Rattle.hall_moves.proofs.Found.{stands_after}
use Rattle.hall_calls.specs.Calls.{none_of_lem, pass_of, Passing}

-- the test of a node that is given, with nothing beside its estimate
pub open-missing : (limit : ℕ) (s : Search) → open_s limit 0 Missing s ≡ Missing
open-missing limit s = go (leb limit s.count)
  where
    go : (b : Bool) → cond b Missing Missing ≡ Missing
    go true = refl
    go false = refl

-- each line's no, as the nodes' law has it
none_from : (g : Ground) (a : Arrays) (step d : ℕ) (jobs : List Job) (cs ds : List Course) → length cs ≡ length jobs → length ds ≡ length cs
    → ((e : ℕ) → e < length cs → (job : Job) → Placed jobs e job → NoIf (open_at job step) (line_slot g a (d + e) (course_in cs e)) (line_slot g a (d + e) (course_in ds e))) → NoneGo step jobs (slots_at g a d cs) (slots_at g a d ds)
none_from g a step d [] [] [] n m f = tt
none_from g a step d [] [] (x ∷ ds) n m f = absurd (omega (arith, m))
none_from g a step d [] (c ∷ cs) ds n m f = absurd (omega (arith, n))
none_from g a step d (job ∷ jobs) [] ds n m f = absurd (omega (arith, n))
none_from g a step d (job ∷ jobs) (c ∷ cs) [] n m f = absurd (omega (arith, m))
none_from g a step d (job ∷ jobs) (c ∷ cs) (x ∷ ds) n m f =
    let z : d + 0 ≡ d = omega arith in (
      subst (λ (j : ℕ). NoIf (open_at job step) (line_slot g a j c) (line_slot g a j x)) z (f 0 (omega arith) job refl),
      none_from g a step (suc d) jobs cs ds (omega (arith, n)) (omega (arith, m)) (λ e l j pl. let y : d + suc e ≡ suc d + e = omega arith in subst (λ (i : ℕ). NoIf (open_at j step) (line_slot g a i (course_in cs e)) (line_slot g a i (course_in ds e))) y (f (suc e) (omega (arith, l)) j pl)),
    )

-- ---- a node below, tested

module _ {hall : Hall} {x : Bool} {g : Ground} {a a' : Arrays} {p : Spot} {name : List Bool} {cs : List Course} {limit : ℕ} {s : Search} {e : Bound} (due : ℕ) (due_at : DueAt (tree_from (hall_bound hall) (left_below hall x p) (snoc name x)) e due) (kept : Kept g a a' cs) (same : SameCourses a a' cs cs) where
  -- the node below is not walked on
  pub below_shut : open_s limit due e s ≡ Missing → Below hall x g a a' p None name cs limit s
  below_shut f = record { e = e; due = due; due_at = due_at; kept = kept; same = same; closed = λ _. f; opened = λ u z. absurd (none-some u z) }

  -- the node below is walked on
  pub below_open : {q : Spot} {y : ℕ} → open_s limit due e s ≡ Sum y → Opens hall x g a a' p q name cs → Below hall x g a a' p (Some q) name cs limit s
  below_open {q} {y} f o = record {
    e = e;
    due = due;
    due_at = due_at;
    kept = kept;
    same = same;
    closed = λ z. absurd (none-some q (sym z));
    opened = λ u z. subst (λ (v : Spot). (n : ℕ) × (open_s limit due e s ≡ Sum n) × Opens hall x g a a' p v name cs) (same_Some q u z) (y, f, o);
  }

-- ---- at a call

module _ {hall : Hall} {g : Ground} {a : Arrays} {p : Spot} {name : List Bool} {calls : ℕ} {cs : List Course} (k : Asking hall g a p name calls cs) (ec : p.asks ≡ CrewCall) where
  abbrev at_zero : p.line ≡ 0
  at_zero = (k.stood.formed.call ec).1

  -- a call is asked at one of the first 64 steps
  pub step_near : p.step < 64
  step_near = omega (arith, k.asked.call ec, k.crewed.table.few)

  -- the question at the node of a call is on the crew at that step
  pub asks_call : Asks (agenda_of hall) name (crew (step_at hall p.step))
  asks_call = subst (Asks (agenda_of hall) name) (ap (topic_at hall p.step p.line) ec) (raised_asks (raised hall k.crewed.table k.stood.formed k.asked) (agenda_of hall) name k.stood.stands)

  asked_step : asked_of p ≡ p.step
  asked_step = ap (λ (q : Question). p.step + asked_in q) ec ∙ omega arith

  call_measure : measure_of p ≡ (64 - p.step) * 128 + 120
  call_measure = ap (λ (q : Question). (64 - p.step) * 128 + measure_in p.line q) ec

  below_call : (x : Bool) → left_below hall x p ≡ below_at hall x p.step p.line CrewCall
  below_call x = ap (below_at hall x p.step p.line) ec

  -- each line is at the step's level, and at no stop
  pub at-step : (e : ℕ) (c : Course) → OnCourse g.ats p e c → c.at ≡ level_in g.ats.before p.step e
  at-step e c o = o.level ∙ cond_no (level_in g.ats.before (p.step + 1) e) (level_in g.ats.before p.step e) (ap (ltb e) at_zero ∙ le-ltb e 0 (omega arith))

  -- where a call is asked no line's course is at a stop
  pub no_stop : (e : ℕ) (c : Course) → OnCourse g.ats p e c → c.stop ≡ None
  no_stop e c o = o.stop ∙ ap (λ (q : Question). stop_by q (eqb e p.line)) ec

  -- where a call is asked and nothing is written, all lines are kept
  pub self_all : Kept g a a cs
  self_all = record { size = refl; each = λ e l. self_kept g a e (course_in cs e) (line_given hall name g a cs e l k.stood.at.lines) }

  -- ---- a call

  module _ (total : ℕ) (tot : total ≡ p.total + hall.call) where
    abbrev q : Spot
    q = line_spot p 0 total

    called : HallAt hall (snoc name true) (asked_of q) (calls + hall.call) (slots_at g a 0 cs)
    called =
        let z : suc (asked_of p) ≡ p.step + 1 = omega (arith, asked_step) in
        subst (λ (n : ℕ). HallAt hall (snoc name true) n (calls + hall.call) (slots_at g a 0 cs)) z (call_at hall name (step_at hall p.step) (asked_of p) calls (slots_at g a 0 cs) k.crewed.fits.fair asks_call k.stood.at)

    formed_call : Formed hall g.ats q
    formed_call = record { call = λ e. cc; line = λ _. (k.asked.call ec, omega arith); removal = λ _ e. cc }

    call_due : DueAt (tree_from (hall_bound hall) (left_below hall true p) (snoc name true)) (Sum 0) total
    call_due =
        all_due hall (snoc name true) (asked_of q) (calls + hall.call) (slots_at g a 0 cs) called k.crewed.fits.few (asked_near hall g.ats q k.crewed formed_call) (left_below hall true p) total 0 (omega (arith, tot, k.stood.total))

    call_opens : Opens hall true g a a p q name cs
    call_opens = record {
      calls = calls + hall.call;
      courses = cs;
      stood = record {
        formed = formed_call;
        at = called;
        stands = subst (Stands (agenda_of hall) (snoc name true)) (below_call true) (stands_after k true);
        count = k.stood.count;
        courses = λ e l.
            let o = k.stood.courses e l in
            record {
              level = at-step e (course_in cs e) o ∙ sym (cond_no (level_in g.ats.before (p.step + 1) e) (level_in g.ats.before p.step e) (le-ltb e 0 (omega arith)));
              stop = no_stop e (course_in cs e) o;
            };
        total = omega (arith, tot, k.stood.total);
      };
      left = sym (below_call true);
      same = same_self a cs;
      kept = λ a'' r. r;
      measure = omega (arith, call_measure);
    }

    -- where the estimate with the call's cost does not pass the test, the hall's node below a call is closed
    pub call_closed : {limit : ℕ} {s : Search} → open_s limit total (Sum 0) s ≡ Missing → Below hall true g a a p None name cs limit s
    call_closed f = below_shut total call_due self_all (same_self a cs) f

    -- where the estimate with the call's cost passes the test, the hall's node below a call is walked on
    pub call_open : {limit : ℕ} {s : Search} {y : ℕ} → open_s limit total (Sum 0) s ≡ Sum y → Below hall true g a a p (Some q) name cs limit s
    call_open f = below_open total call_due self_all (same_self a cs) f call_opens

  -- ---- no call

  -- some line's own node below has no bound
  pub none_closed : {a' : Arrays} {limit : ℕ} {s : Search} → Kept g a a' cs → ((e : ℕ) → (rows_at a' e).v ≡ (rows_at a e).v) → hall_bound hall (snoc name false) ≡ Missing → Below hall false g a a' p None name cs limit s
  none_closed {a'} {limit} {s} kp ev f =
      below_shut {e = Missing} 0
      (record { none = λ _. tree_bound (hall_bound hall) (left_below hall false p) (snoc name false) ∙ f; some = λ x h. absurd (no_sum_lem Missing x refl h); fits = λ x h. absurd (no_sum_lem Missing x refl h) }) kp
      (record { size = refl; sheet = λ e l. refl; best = λ e l. subst (λ (v : List ℕ). BestSame (rows_at a e).v v (course_in cs e).sheet) (sym (ev e)) (λ i h. refl) }) (open-missing limit s)

  module _ {a' : Arrays} {total : ℕ} (r : Passing g a a' p.step calls cs (length cs) total) where
    abbrev n : Spot
    n = call_spot p total

    abbrev ds : List Course
    ds = r.courses

    one : (e : ℕ) → e < length cs → (job : Job) → Placed hall.jobs e job → NoIf (open_at job (step_at hall p.step)) (line_slot g a' e (course_in cs e)) (line_slot g a' e (course_in ds e))
    one e l job pl =
        subst (λ (b : Bool). NoIf b (line_slot g a' e (course_in cs e)) (line_slot g a' e (course_in ds e))) (sym (k.crewed.table.tells p.step (k.asked.call ec) e job pl))
        (subst (λ (c : Course). NoIf (open_in g.ats.before p.step e) (line_slot g a' e (course_in cs e)) (line_slot g a' e c)) (sym (r.done e l)) (go (open_in g.ats.before p.step e) refl))
      where
        go : (b : Bool) → open_in g.ats.before p.step e ≡ b → NoIf b (line_slot g a' e (course_in cs e)) (line_slot g a' e (pass_of b (course_in cs e)))
        go true f = r.goes e l f
        go false f = refl

    none_go : NoneGo (step_at hall p.step) hall.jobs (slots_at g a' 0 cs) (slots_at g a' 0 ds)
    none_go = none_from g a' (step_at hall p.step) 0 hall.jobs cs ds k.stood.count r.size (λ e l job pl. let z : e ≡ 0 + e = omega arith in subst (λ (j : ℕ). NoIf (open_at job (step_at hall p.step)) (line_slot g a' j (course_in cs e)) (line_slot g a' j (course_in ds e))) z (one e l job pl))

    uncalled : HallAt hall (snoc name false) (asked_of n) calls (slots_at g a' 0 ds)
    uncalled =
        let z : suc (asked_of p) ≡ p.step + 1 + 0 = omega (arith, asked_step) in
        subst (λ (m : ℕ). HallAt hall (snoc name false) m calls (slots_at g a' 0 ds)) z
        (no_call_at hall name (step_at hall p.step) asks_call (asked_of p) calls (slots_at g a' 0 cs) (slots_at g a' 0 ds) none_go (kept_at hall name (asked_of p) calls (slots_at g a 0 cs) (slots_at g a' 0 cs) (all_kept_lem g a a' cs r.kept) k.stood.at))

    formed_none : Formed hall g.ats n
    formed_none = record { call = λ _. (omega (arith, k.asked.call ec), refl); line = λ e. cc; removal = λ _ e. cc }

    -- the total of all lines past the step is due at the hall's node below no call, without part sums
    pub none_due : DueAt (tree_from (hall_bound hall) (left_below hall false p) (snoc name false)) (Sum 0) total
    none_due =
        all_due hall (snoc name false) (asked_of n) calls (slots_at g a' 0 ds) uncalled k.crewed.fits.few (asked_near hall g.ats n k.crewed formed_none) (left_below hall false p) total 0 (omega (arith, r.total_is))

    on_none : (e : ℕ) → e < length cs → OnCourse g.ats n e (course_in ds e)
    on_none e l = subst (OnCourse g.ats n e) (sym (r.done e l)) (go (open_in g.ats.before p.step e) refl)
      where
        up : level_in g.ats.before (p.step + 1) e ≡ level_in g.ats.before p.step e + cond (open_in g.ats.before p.step e) 1 0
        up = k.crewed.table.rises p.step e (k.asked.call ec) (omega (arith, l, k.stood.count))

        o : OnCourse g.ats p e (course_in cs e)
        o = k.stood.courses e l

        here : level_in g.ats.before (p.step + 1) e ≡ level_of g.ats n e
        here = sym (cond_no (level_in g.ats.before (p.step + 1 + 1) e) (level_in g.ats.before (p.step + 1) e) (le-ltb e 0 (omega arith)))

        go : (b : Bool) → open_in g.ats.before p.step e ≡ b → OnCourse g.ats n e (pass_of b (course_in cs e))
        go true f = record {
          level = (let z = up ∙ ap (λ (b : Bool). level_in g.ats.before p.step e + cond b 1 0) f in let y : (course_in cs e).at + 1 ≡ level_in g.ats.before (p.step + 1) e = omega (arith, z, at-step e (course_in cs e) o) in y ∙ here);
          stop = refl;
        }
        go false f = record {
          level = (let z = up ∙ ap (λ (b : Bool). level_in g.ats.before p.step e + cond b 1 0) f in let y : (course_in cs e).at ≡ level_in g.ats.before (p.step + 1) e = omega (arith, z, at-step e (course_in cs e) o) in y ∙ here);
          stop = no_stop e (course_in cs e) o;
        }

    sheet_same : (e : ℕ) → e < length cs → (course_in ds e).sheet ≡ (course_in cs e).sheet
    sheet_same e l = ap (λ (c : Course). c.sheet) (r.done e l) ∙ go (open_in g.ats.before p.step e)
      where
        go : (b : Bool) → (pass_of b (course_in cs e)).sheet ≡ (course_in cs e).sheet
        go true = refl
        go false = refl

    kept_none : (a'' : Arrays) → Kept g a' a'' ds → Kept g a' a'' cs
    kept_none a'' y = record { size = y.size; each = λ e l. one_kept e l (open_in g.ats.before p.step e) refl (subst (LineKept g a' a'' e) (r.done e l) (y.each e (omega (arith, l, r.size)))) }
      where
        one_kept : (e : ℕ) → e < length cs → (b : Bool) → open_in g.ats.before p.step e ≡ b → LineKept g a' a'' e (pass_of b (course_in cs e)) → LineKept g a' a'' e (course_in cs e)
        one_kept e l true f h = line_goes g a' a'' e false (course_in cs e) (none_of_lem (course_in cs e)) (omega arith) (r.goes e l f) h
        one_kept e l false f h = h

    best_none : (e : ℕ) → e < length cs → BestSame (rows_at a e).v (rows_at a' e).v (course_in cs e).sheet
    best_none e l = subst (λ (v : List ℕ). BestSame (rows_at a e).v v (course_in cs e).sheet) (sym (r.aside e)) (λ i h. refl)

    none_opens : Opens hall false g a a' p n name cs
    none_opens = record {
      calls = calls;
      courses = ds;
      stood = record {
        formed = formed_none;
        at = uncalled;
        stands = subst (Stands (agenda_of hall) (snoc name false)) (below_call false) (stands_after k false);
        count = r.size ∙ k.stood.count;
        courses = λ e l. on_none e (omega (arith, l, r.size));
        total = r.total_is;
      };
      left = sym (below_call false);
      same = record { size = r.size; sheet = sheet_same; best = best_none };
      kept = kept_none;
      measure = omega (arith, call_measure, step_near);
    }

    -- where the total of all lines past the step does not pass the test, the node below no call is closed
    pub none_drop : {limit : ℕ} {s : Search} → open_s limit total (Sum 0) s ≡ Missing → Below hall false g a a' p None name cs limit s
    none_drop f = below_shut total none_due r.kept (record { size = refl; sheet = λ e l. refl; best = best_none }) f

    -- where the total of all lines past the step passes the test, the node below no call is walked on
    pub none_open : {limit : ℕ} {s : Search} {y : ℕ} → open_s limit total (Sum 0) s ≡ Sum y → Below hall false g a a' p (Some n) name cs limit s
    none_open f = below_open total none_due r.kept (record { size = refl; sheet = λ e l. refl; best = best_none }) f none_opens
