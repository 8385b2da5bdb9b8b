-- What the walk on from a node is made of: the nodes below, one after the other, and a full node.
use Prim.Native.Nat.{ℕ, suc, ◌+◌, ◌<◌, ◌≤◌}
use mathlib.Core.Path.{◌≡◌, refl, sym, ap, subst, ◌∙◌}
use mathlib.Core.Bool.{Bool, true, false, false≢true}
use mathlib.Core.List.{List, [], ◌∷◌}
use Rattle.std.specs.Prelude.{Option, Some, None}
use Rattle.std.proofs.lemmas.Option.{none-some, same_Some}
use native.Mathlib.Omega.{arith}
use borrow.Author.Tests.{le-ltb}
use lib.Dec.{ltb, eqb}
use lib.ListN.{length, get_or}
use Rattle.branch.specs.declared.Bound.TheVariants.{Sum}
use Rattle.branch.specs.Search.{Tree, Limited, snoc, limited, onward}
use Rattle.base.specs.Filled.{FilledBy}
use Rattle.held_rows.specs.Held.{HeldSheet}
use Rattle.held_lanes.specs.Places.{removed_place, best_place}
use Rattle.search_state.specs.declared.Search.{Search}
use Rattle.search_state.specs.State.{view_of, counted_s, kept_s, reached_s, open_s}
use Rattle.search_state.proofs.Trees.{closed, opened}
use Rattle.hall_model.specs.Hall.{Hall}
use Rattle.hall_model.specs.Agenda.{Agenda, lines_of}
use Rattle.hall_model.specs.LowerBound.{hall_bound}
use Rattle.hall_model.specs.Steps.{tree_from}
use Rattle.held_nodes.proofs.Frames.{keep_frame}
use Rattle.hall_nodes.specs.Lines.{Slot, Given, lines_sum, SlotKept}
use Rattle.hall_nodes.specs.Walk.{Sees}
use Rattle.hall_nodes.proofs.Incumbent.{parts_same, sees_reached, Closes, AllClose, full_walked}
use Rattle.hall_nodes.proofs.Due.{sums_fit}
use Rattle.hall_lines.specs.declared.Level.{Level}
use Rattle.hall_lines.specs.declared.Stop.{Stop}
use Rattle.hall_lines.specs.Levels.{mask_in, LevelsKept}
use Rattle.hall_lines.proofs.Levels.{levels_none, level_same}
use Rattle.hall_steps.specs.Steps.{level_in}
use Rattle.hall_steps.specs.Table.{step_count}
use Rattle.held_nodes.specs.State.{Frame}
use Rattle.hall_state.specs.declared.Ground.{Ground}
use Rattle.hall_state.specs.declared.Question.{Question}
use Rattle.hall_state.specs.declared.Question.TheVariants.{CrewCall, LineStop, PartRemoval}
use Rattle.hall_state.specs.declared.Spot.{Spot}
use Rattle.hall_state.specs.Courses.{Arrays, tables_at, rows_at, Course, course_in, level_slot, slot_by, line_slot, slots_at, Kept}
use Rattle.hall_state.specs.Spots.{left_at, left_of, left_below, stop_by, OnCourse, asked_of, Stood, Asked}
use Rattle.hall_state.specs.Moves.{measure_of, SameCourses, Crewed, Arrived, Below, Passed}
use Rattle.hall_state.proofs.Courses.{slot_sheet, all_then, all_kept_lem, same_best, line_given, job_here}
use Rattle.hall_state.proofs.Left.{SameLeft, same_path, same_then, raised, raised_both, on_end}
use Rattle.hall_state.proofs.Moves.{asked_near}
use Rattle.hall_state.proofs.Spots.{cond_no}
use Rattle.hall_moves.specs.Asks.{Asking, AskedAt}
use Rattle.hall_turns.specs.Turns.{StoodAt}
use Rattle.hall_calls.proofs.Passes.{asking_kept}
use Rattle.hall_turns.specs.Turns.{KeptLines}
use Rattle.hall_walk.specs.Walk.{call_at, line_at, removal_at, Reaches, ReachedAt, HallWalked, WalksOn, walk_measure}

-- the same sheets, and nothing of the incumbent moved since
back_courses : (a a' b : Arrays) (cs cs' : List Course) → SameCourses a a' cs cs' → SameCourses b b cs' cs
back_courses a a' b cs cs' k = record { size = sym k.size; sheet = λ e l. sym (k.sheet e (omega (arith, l, k.size))); best = λ e l i h. refl }

-- the incumbent as the lines see it
sees_as : (hall : Hall) (g : Ground) (a a' : Arrays) (cs cs' : List Course) (best : List Bool) (masks : List ℕ) (s : Search) → SameCourses a a' cs cs' → Sees hall best (slots_at g a 0 cs) masks s → Sees hall best (slots_at g a' 0 cs') masks s
sees_as hall g a a' cs cs' best masks s k f l = parts_same hall best (lines_of hall) (slots_at g a 0 cs) (slots_at g a' 0 cs') masks (same_best g a a' cs cs' k) (f l)

-- ---- a node below

module _ {hall : Hall} {x : Bool} {g : Ground} {a a₁ : Arrays} {p : Spot} {q : Option Spot} {name : List Bool} {cs : List Course} {limit : ℕ} {s : Search} (b : Below hall x g a a₁ p q name cs limit s) where
  -- the calls at the node below, where it is walked on
  pub calls_below : (t : Option Spot) → q ≡ t → ℕ
  calls_below None e = 0
  calls_below (Some r) e = (b.opened r e).2.calls

  -- the courses at the node below, where it is walked on
  pub courses_below : (t : Option Spot) → q ≡ t → List Course
  courses_below None e = []
  courses_below (Some r) e = (b.opened r e).2.courses

module _ {hall : Hall} {x : Bool} {g : Ground} {a a₁ : Arrays} {p : Spot} {q : Option Spot} {name best : List Bool} {cs : List Course} {masks : List ℕ} {limit : ℕ} {s : Search} (crewed : Crewed hall g.ats) (b : Below hall x g a a₁ p q name cs limit s) (sees : Sees hall best (slots_at g a 0 cs) masks s) where
  -- the node below is reached
  pub enters : (t : Option Spot) (e : q ≡ t) → Reaches hall g a₁ q (snoc name x) best (calls_below b t e) (courses_below b t e) masks limit s
  unfolding calls_below courses_below
  enters (Some r) e =
      let o = b.opened r e in
      record {
        crewed = crewed;
        left = left_below hall x p;
        e = b.e;
        due = b.due;
        due_at = b.due_at;
        closed = λ f. absurd (none-some r (sym f ∙ e));
        opened = λ r' f.
            subst (λ (t : Spot). (y : ℕ) × (open_s limit b.due b.e s ≡ Sum y) × Stood hall g a₁ t (snoc name x) o.2.calls o.2.courses × (left_of hall t ≡ left_below hall x p) × Sees hall best (slots_at g a₁ 0 o.2.courses) masks s) (same_Some r r' (sym e ∙ f))
            (o.0, o.1, o.2.stood, o.2.left, sees_as hall g a a₁ cs o.2.courses best masks s o.2.same sees);
      }
  enters None e = record {
    crewed = crewed;
    left = left_below hall x p;
    e = b.e;
    due = b.due;
    due_at = b.due_at;
    closed = λ _. b.closed e;
    opened = λ r f. absurd (none-some r (sym e ∙ f));
  }

  -- what the walk does with it, said of the node above
  pub back : (t : Option Spot) (e : q ≡ t) {a₂ : Arrays} {masks₂ : List ℕ} {r : Search} → HallWalked hall (enters t e).left g a₁ a₂ q (snoc name x) best (courses_below b t e) masks masks₂ limit s r
      → Passed hall (tree_from (hall_bound hall) (left_below hall x p) (snoc name x)) (snoc name x) best limit g a a₂ cs masks₂ s r
  unfolding courses_below enters
  back (Some t) e {a₂} {masks₂} {r} w =
      let o = (b.opened t e).2 in
      let z = w.walked t e in
      record {
        found = z.found;
        search = z.search;
        sees = sees_as hall g a₂ a₂ o.courses cs z.found masks₂ r (back_courses a a₁ a₂ cs o.courses o.same) z.sees;
        kept = all_then g a a₁ a₂ cs b.kept (o.kept a₂ z.kept);
      }
  back None e {a₂} {masks₂} {r} w =
      let z = w.passed e in
      subst (λ (r' : Search). Passed hall (tree_from (hall_bound hall) (left_below hall x p) (snoc name x)) (snoc name x) best limit g a a₂ cs masks₂ s r') (sym z.0)
      (subst (λ (c : Arrays). Passed hall (tree_from (hall_bound hall) (left_below hall x p) (snoc name x)) (snoc name x) best limit g a c cs masks₂ s (reached_s limit s)) (sym z.1)
      (subst (λ (m : List ℕ). Passed hall (tree_from (hall_bound hall) (left_below hall x p) (snoc name x)) (snoc name x) best limit g a a₁ cs m s (reached_s limit s)) (sym z.2)
      (record {
        found = best;
        search = closed b.due_at (snoc name x) limit (λ _. best) s (b.closed e);
        sees = sees_reached hall best (slots_at g a₁ 0 cs) masks limit s (sees_as hall g a a₁ cs cs best masks s b.same sees);
        kept = b.kept;
      })))

-- ---- a full node's lines

close_from : (g : Ground) (a a' : Arrays) (d : ℕ) (cs : List Course) (masks : List ℕ) → length cs ≤ length masks → ((e : ℕ) → e < length cs → Closes (line_slot g a (d + e) (course_in cs e)) (line_slot g a' (d + e) (course_in cs e)) (get_or masks e 0)) → AllClose (slots_at g a d cs) (slots_at g a' d cs) masks
close_from g a a' d [] masks n f = tt
close_from g a a' d (c ∷ cs) [] n f = absurd (omega (arith, n))
close_from g a a' d (c ∷ cs) (m ∷ masks) n f =
    let z : d + 0 ≡ d = omega arith in (
      subst (λ (j : ℕ). Closes (line_slot g a j c) (line_slot g a' j c) m) z (f 0 (omega arith)),
      close_from g a a' (suc d) cs masks (omega (arith, n)) (λ e l. let y : d + suc e ≡ suc d + e = omega arith in subst (λ (j : ℕ). Closes (line_slot g a j (course_in cs e)) (line_slot g a' j (course_in cs e)) (get_or masks e 0)) y (f (suc e) (omega (arith, l)))),
    )

module _ {hall : Hall} {g : Ground} {a b : Arrays} {p : Spot} {name : List Bool} {calls : ℕ} {cs : List Course} {masks : List ℕ} (crewed : Crewed hall g.ats) (st : Stood hall g a p name calls cs) (end : p.step ≡ step_count hall) (kl : KeptLines a b masks g.ats (length hall.jobs)) where
  is_calling : p.asks ≡ CrewCall
  is_calling = go p.asks refl
    where
      go : (t : Question) → p.asks ≡ t → t ≡ CrewCall
      go CrewCall e = refl
      go LineStop e = absurd (omega (arith, (st.formed.line e).0, end))
      go (PartRemoval stop) e = absurd (omega (arith, (st.formed.removal stop e).0, end))

  module _ (e : ℕ) (l : e < length cs) where
    abbrev c : Course
    c = course_in cs e

    ended : OnCourse g.ats p e c
    ended = st.courses e l

    is_level : (x : Arrays) → line_slot g x e c ≡ level_slot g x e c
    is_level x = ap (λ (t : Option Stop). slot_by t g x e c) (ended.stop ∙ ap (λ (q : Question). stop_by q (eqb e p.line)) is_calling)

    at_end_lem : c.at ≡ level_in g.ats.before (step_count hall) e
    at_end_lem = ended.level ∙ cond_no (level_in g.ats.before (p.step + 1) e) (level_in g.ats.before p.step e) (ap (ltb e) (st.formed.call is_calling).1 ∙ le-ltb e 0 (omega arith)) ∙ ap (λ (k : ℕ). level_in g.ats.before k e) end

    given : Given (level_slot g a e c)
    given = subst Given (is_level a) (line_given hall name g a cs e l st.at.lines)

    filled : FilledBy best_place (λ (i : ℕ). get_or (rows_at a e).v (removed_place i) 0) 64 (rows_at a e).v (rows_at b e).v
    filled = kl.removals e (omega (arith, l, st.count))

    levels : LevelsKept (rows_at a e).n (rows_at b e).n (c.at + 1)
    levels = subst (λ (n : List Level). LevelsKept (rows_at a e).n n (c.at + 1)) (sym (kl.levels e)) (levels_none (rows_at a e).n (c.at + 1))

    closes : Closes (level_slot g a e c) (level_slot g b e c) (get_or masks e 0)
    closes =
        let j = job_here hall name g a cs e l st.at.lines in
        record {
          sheet = refl;
          settled = refl;
          end = at_end_lem ∙ crewed.table.ends e j.job j.placed ∙ sym j.openings;
          best = filled;
          mask = kl.masks e (omega (arith, l, st.count)) ∙ ap (mask_in (rows_at a e).n) (ap (λ (k : ℕ). level_in g.ats.before k e) crewed.table.steps_are ∙ sym at_end_lem);
        }

    kept : SlotKept (level_slot g a e c) (level_slot g b e c)
    kept =
        let wr = (given.opening refl).all in
        record {
          same = level_same c.sheet c.blocks (tables_at g e) (rows_at a e) (rows_at b e) c.at c.paid levels;
          frame = subst (λ (w : List ℕ). Frame (tables_at g e).t (rows_at a e).w w (rows_at a e).v (rows_at b e).v (level_slot g a e c).node.rows c.at) (sym (kl.rows e))
              (keep_frame (tables_at g e).t (rows_at a e).w (rows_at a e).v (rows_at b e).v (level_slot g a e c).node.rows c.at (λ (i : ℕ). get_or (rows_at a e).v (removed_place i) 0) wr.memo
              (omega (arith, wr.rows_are.few, wr.size, given.inside, given.tables.few)) (omega (arith, given.inside, given.tables.few)) filled);
          pending = λ q. absurd (false≢true q);
        }

  -- the lines of a full node are kept, they close, and nothing is left to ask
  pub full_at : Kept g a b cs × AllClose (slots_at g a 0 cs) (slots_at g b 0 cs) masks × SameLeft (left_of hall p) []
  full_at = (
    record {
      size = kl.size;
      each = λ e l. record {
        slot = subst (λ (x : Slot). SlotKept x (line_slot g b e (course_in cs e))) (sym (is_level e l a)) (subst (SlotKept (level_slot g a e (course_in cs e))) (sym (is_level e l b)) (kept e l));
        levels = levels e l;
      };
    },
    close_from g a b 0 cs masks (omega (arith, kl.count, st.count, crewed.fits.few))
        (λ e l.
        let z : e ≡ 0 + e = omega arith in
        subst (λ (j : ℕ). Closes (line_slot g a j (course_in cs e)) (line_slot g b j (course_in cs e)) (get_or masks e 0)) z
        (subst (λ (x : Slot). Closes x (line_slot g b e (course_in cs e)) (get_or masks e 0)) (sym (is_level e l a)) (subst (λ (x : Slot). Closes (level_slot g a e (course_in cs e)) x (get_or masks e 0)) (sym (is_level e l b)) (closes e l)))),
    same_then (same_path (ap (left_at hall p.step p.line) is_calling)) (on_end hall p.step (omega (arith, end))),
  )

-- where a node that is walked on stands
abbrev pub stands_at : {hall : Hall} {g : Ground} {a : Arrays} {u : Option Spot} {q : Spot} {name best : List Bool} {calls : ℕ} {cs : List Course} {masks : List ℕ} {limit : ℕ} {s : Search} → Reaches hall g a u name best calls cs masks limit s → u ≡ Some q → StoodAt g a q
stands_at {hall} {g} {a} {u} {q} {name} {best} {calls} {cs} h e = record { hall = hall; name = name; calls = calls; cs = cs; crewed = h.crewed; stood = (h.opened q e).2 }

-- a question that is asked, at its spot
abbrev pub asked_at : {hall : Hall} {g : Ground} {a : Arrays} {p : Spot} {name : List Bool} {calls : ℕ} {cs : List Course} → Asking hall g a p name calls cs → AskedAt p.asks g a p
asked_at {hall} {g} {a} {p} {name} {calls} {cs} k = record { hall = hall; name = name; calls = calls; cs = cs; asking = k; is = refl }

-- a question that is asked, named by what it is
abbrev pub asked_as : {g : Ground} {a : Arrays} {p : Spot} {r : Question} → p.asks ≡ r → AskedAt p.asks g a p → AskedAt r g a p
asked_as e k = record { hall = k.hall; name = k.name; calls = k.calls; cs = k.cs; asking = k.asking; is = e }

-- ---- the node itself

module _ {hall : Hall} {g : Ground} {a a₁ : Arrays} {u : Option Spot} {q p : Spot} {name best : List Bool} {calls : ℕ} {cs : List Course} {masks : List ℕ} {limit : ℕ} {s : Search} (h : Reaches hall g a u name best calls cs masks limit s) (there : u ≡ Some q)
    (ar : Arrived hall g a a₁ q p name calls cs) where
  abbrev o : (y : ℕ) × (open_s limit h.due h.e s ≡ Sum y) × Stood hall g a q name calls cs × (left_of hall q ≡ h.left) × Sees hall best (slots_at g a 0 cs) masks s
  o = h.opened q there

  abbrev T : Tree
  T = tree_from (hall_bound hall) h.left name

  -- the walk on from the question is the walk on from the node
  on_from : (st : Limited) → onward limit (tree_from (hall_bound hall) (left_of hall p) name) name st ≡ onward limit T name st
  on_from st = sym (ap (λ (U : Tree). onward limit U name st) (ap (λ (l : List Agenda). tree_from (hall_bound hall) l name) (sym o.3) ∙ ar.tree))

  counts : onward limit T name (view_of limit (λ _. best) (counted_s s)) ≡ limited limit T name (view_of limit (λ _. best) s)
  counts = (opened h.due_at name limit (λ _. best) s o.0 o.1).on

  -- ---- a full node

  -- it becomes the incumbent
  pub full_passed : {a₂ : Arrays} {masks₂ : List ℕ} → p.step ≡ step_count hall → KeptLines a₁ a₂ masks₂ g.ats (length hall.jobs) → Passed hall T name best limit g a a₂ cs masks₂ s (kept_s (counted_s s) p.total 0)
  full_passed {a₂} {masks₂} end kl =
      let st = ar.stood in
      let cs₁ = ar.courses in
      let e = full_at h.crewed st end kl in
      let fits = sums_fit hall name (asked_of p) calls (slots_at g a₁ 0 cs₁) st.at h.crewed.fits.few (asked_near hall g.ats p h.crewed st.formed) in
      let hw = full_walked hall name limit (asked_of p) calls (slots_at g a₁ 0 cs₁) (slots_at g a₂ 0 cs₁) masks₂ best (counted_s s) 0 st.at (omega (arith, fits)) e.1 (all_kept_lem g a₁ a₂ cs₁ e.0) in
      subst (λ (m : ℕ). Passed hall T name best limit g a a₂ cs masks₂ s (kept_s (counted_s s) m 0)) (sym st.total)
      (record {
        found = hw.name;
        search = hw.search ∙ sym (ap (λ (U : Tree). onward limit U name (view_of limit (λ _. best) (counted_s s))) (e.2.tree (hall_bound hall) name)) ∙ on_from (view_of limit (λ _. best) (counted_s s)) ∙ counts;
        sees = sees_as hall g a₂ a₂ cs₁ cs hw.name masks₂ (kept_s (counted_s s) (calls + lines_sum (slots_at g a₁ 0 cs₁)) 0) (back_courses a a₁ a₂ cs cs₁ ar.same) hw.sees;
        kept = ar.kept a₂ e.0;
      })

  -- ---- both nodes below, walked with the node counted

  module _ (ask : Asked hall g.ats p) {s₁ : Search} (counted : s₁ ≡ counted_s s) where
    -- the question
    pub asking : Asking hall g a₁ p name calls ar.courses
    asking = record { crewed = h.crewed; stood = ar.stood; asked = ask }

    -- what the lines see at the question
    pub sees_there : Sees hall best (slots_at g a₁ 0 ar.courses) masks s₁
    sees_there = subst (Sees hall best (slots_at g a₁ 0 ar.courses) masks) (sym counted) (sees_as hall g a a₁ cs ar.courses best masks (counted_s s) ar.same o.4)

    module _ {q₁ : Option Spot} {a₂ : Arrays} (b₁ : Below hall false g a₁ a₂ p q₁ name ar.courses limit s₁) where
      -- the calls at the node of a no
      abbrev calls₁ : ℕ
      calls₁ = calls_below b₁ q₁ refl

      -- the courses at the node of a no
      abbrev courses₁ : List Course
      courses₁ = courses_below b₁ q₁ refl

      -- what the walk is given there
      abbrev enter₁ : Reaches hall g a₂ q₁ (snoc name false) best calls₁ courses₁ masks limit s₁
      enter₁ = enters h.crewed b₁ sees_there q₁ refl

      -- where the node of a no is reached
      abbrev pub no_reached : ReachedAt g a₂ q₁ masks limit s₁
      no_reached = record { hall = hall; name = snoc name false; kept = best; calls = calls₁; cs = courses₁; reaches = enter₁ }

      module _ {a₃ : Arrays} {masks₃ : List ℕ} {r : Search} (w₁ : HallWalked hall enter₁.left g a₂ a₃ q₁ (snoc name false) best courses₁ masks masks₃ limit s₁ r) where
        abbrev passed₁ : Passed hall (tree_from (hall_bound hall) (left_below hall false p) (snoc name false)) (snoc name false) best limit g a₁ a₃ ar.courses masks₃ s₁ r
        passed₁ = back h.crewed b₁ sees_there q₁ refl w₁

        -- the question is asked again
        pub asking₁ : Asking hall g a₃ p name calls ar.courses
        asking₁ = asking_kept passed₁.kept asking

        module _ {q₂ : Option Spot} {a₄ : Arrays} (b₂ : Below hall true g a₃ a₄ p q₂ name ar.courses limit r) where
          -- the incumbent's name behind the no
          abbrev kept₂ : List Bool
          kept₂ = passed₁.found

          -- the calls of a yes
          abbrev calls₂ : ℕ
          calls₂ = calls_below b₂ q₂ refl

          -- the courses at the node of a yes
          abbrev courses₂ : List Course
          courses₂ = courses_below b₂ q₂ refl

          -- what the walk is given there
          abbrev enter₂ : Reaches hall g a₄ q₂ (snoc name true) kept₂ calls₂ courses₂ masks₃ limit r
          enter₂ = enters h.crewed b₂ passed₁.sees q₂ refl

          -- where the node of a yes is reached
          abbrev pub yes_reached : ReachedAt g a₄ q₂ masks₃ limit r
          yes_reached = record { hall = hall; name = snoc name true; kept = kept₂; calls = calls₂; cs = courses₂; reaches = enter₂ }

          -- no first, then yes: the node is passed
          pub both_passed : {a₅ : Arrays} {masks₅ : List ℕ} {r' : Search} → HallWalked hall enter₂.left g a₄ a₅ q₂ (snoc name true) kept₂ courses₂ masks₃ masks₅ limit r r' → Passed hall T name best limit g a a₅ cs masks₅ s r'
          both_passed {a₅} {masks₅} {r'} w₂ =
              let y = back h.crewed b₂ passed₁.sees q₂ refl w₂ in
              let z = passed₁.search ∙ ap (λ (x : Search). limited limit (tree_from (hall_bound hall) (left_below hall false p) (snoc name false)) (snoc name false) (view_of limit (λ _. best) x)) counted in
              record {
                found = y.found;
                search = y.search ∙ ap (limited limit (tree_from (hall_bound hall) (left_below hall true p) (snoc name true)) (snoc name true)) z
                    ∙ sym (raised_both (raised hall h.crewed.table ar.stood.formed ask) (hall_bound hall) limit name (view_of limit (λ _. best) (counted_s s))) ∙ on_from (view_of limit (λ _. best) (counted_s s)) ∙ counts;
                sees = sees_as hall g a₅ a₅ ar.courses cs y.found masks₅ r' (back_courses a a₁ a₅ cs ar.courses ar.same) y.sees;
                kept = ar.kept a₅ (all_then g a₁ a₃ a₅ ar.courses passed₁.kept y.kept);
              }

-- ---- measures, and what closing asks

-- less is left below
pub below_falls : {hall : Hall} {x : Bool} {g : Ground} {a a₁ : Arrays} {p : Spot} {q : Option Spot} {name : List Bool} {cs : List Course} {limit : ℕ} {s : Search} {m : ℕ} → Below hall x g a a₁ p q name cs limit s → measure_of p ≤ m → walk_measure q < m + 1
below_falls {hall} {x} {g} {a} {a₁} {p} {q} {name} {cs} {limit} {s} {m} b l = go q refl
  where
    go : (t : Option Spot) → q ≡ t → walk_measure t < m + 1
    go None e = omega arith
    go (Some r) e = omega (arith, l, (b.opened r e).2.measure)

-- what closing asks of the table
pub close_asks : {hall : Hall} {g : Ground} {a : Arrays} {p : Spot} {name : List Bool} {calls : ℕ} {cs : List Course} → Crewed hall g.ats → Stood hall g a p name calls cs → (e : ℕ) → e < g.ats.lines → level_in g.ats.before g.ats.steps e ≤ 64
close_asks {hall} {g} {a} {p} {name} {calls} {cs} k st e l =
    let m : e < length cs = omega (arith, l, k.table.lines_are, st.count) in
    let j = job_here hall name g a cs e m st.at.lines in
    let h = line_given hall name g a cs e m st.at.lines in
    let few = subst (λ (x : HeldSheet). length x.positions ≤ 64) (slot_sheet g a e (course_in cs e)) h.tables.few in
    let i = ap (λ (n : ℕ). level_in g.ats.before n e) k.table.steps_are ∙ k.table.ends e j.job j.placed in
    omega (arith, i, j.openings, few)

-- ---- a spot by its question

-- the spot of a call
pub as_call : (q : Spot) → q.asks ≡ CrewCall → q.line ≡ 0 → q ≡ call_at q.step q.total
as_call q e z = λ i. record { asks = e i; step = q.step; line = z i; total = q.total }

-- the spot of a line's stop
pub as_line : (q : Spot) → q.asks ≡ LineStop → q ≡ line_at q.step q.line q.total
as_line q e = λ i. record { asks = e i; step = q.step; line = q.line; total = q.total }

-- the spot of a removal
pub as_removal : (q : Spot) (stop : Stop) → q.asks ≡ PartRemoval stop → q ≡ removal_at q.step q.line stop q.total
as_removal q stop e = λ i. record { asks = e i; step = q.step; line = q.line; total = q.total }

-- a node that is reached there is reached here, where both are one spot
pub reached_as : {g : Ground} {a : Arrays} {u v : Option Spot} {masks : List ℕ} {limit : ℕ} {s : Search} → u ≡ v → ReachedAt g a u masks limit s → ReachedAt g a v masks limit s
reached_as e k =
    let h = k.reaches in
    record {
      hall = k.hall;
      name = k.name;
      kept = k.kept;
      calls = k.calls;
      cs = k.cs;
      reaches = record { crewed = h.crewed; left = h.left; e = h.e; due = h.due; due_at = h.due_at; closed = λ f. h.closed (e ∙ f); opened = λ r f. h.opened r (e ∙ f) };
    }

-- what the walk does there it does here
pub walks_as : {g : Ground} {a a' : Arrays} {u v : Option Spot} {masks masks' : List ℕ} {limit : ℕ} {s r : Search} → u ≡ v → WalksOn g a a' v masks masks' limit s r → WalksOn g a a' u masks masks' limit s r
unfolding reached_as
walks_as e w k = let y = w (reached_as e k) in record { count = y.count; passed = λ f. y.passed (sym e ∙ f); walked = λ q f. y.walked q (sym e ∙ f) }

-- a call is asked of no line
pub no_line : {g : Ground} {a : Arrays} {u : Option Spot} {q : Spot} {masks : List ℕ} {limit : ℕ} {s : Search} → ReachedAt g a u masks limit s → u ≡ Some q → q.asks ≡ CrewCall → q.line ≡ 0
no_line {q = q} k e is = ((k.reaches.opened q e).2.formed.call is).1
