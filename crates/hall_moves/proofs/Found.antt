-- What a line's functions find is a line's move of the hall: no stop and a stop, not removed and removed.
use Prim.Native.Nat.{ℕ, ◌+◌, ◌<◌, ◌≤◌}
use mathlib.Core.Path.{◌≡◌, refl, sym, ap, subst, ◌∙◌}
use mathlib.Core.Bool.{Bool, true, false}
use mathlib.Core.List.{List}
use Rattle.std.specs.Prelude.{Option, Some, None}
use native.Mathlib.Omega.{arith}
use lib.ListN.{length, get_or, set, length-set}
use lib.Seq.{get_or-set_same, get_or-set_other}
use Rattle.std.proofs.lemmas.Option.{none-some, same_Some}
use Rattle.branch.specs.declared.Bound.{Bound}
use Rattle.branch.specs.declared.Bound.TheVariants.{Missing, Sum}
use Rattle.branch.specs.Search.{snoc}
use Rattle.lane_rows.specs.Layout.{fee_place}
use Rattle.lane_rows.specs.Tables.{sum_where}
use Rattle.held_lanes.specs.Places.{removal_place}
use Rattle.search_state.specs.declared.Search.{Search}
use Rattle.search_state.specs.State.{open_s}
use Rattle.hall_model.specs.Hall.{Hall}
use Rattle.hall_model.specs.Agenda.{line, agenda_of, lines_of}
use Rattle.hall_model.specs.Steps.{Asks, Stands}
use Rattle.hall_nodes.specs.Lines.{Slot, Given, slot_bound, Goes, SlotKept, no_blocks_lem, yes_blocks}
use Rattle.hall_nodes.proofs.Bounds.{lines_most}
use Rattle.hall_nodes.proofs.Due.{lines_length}
use Rattle.hall_lines.specs.declared.Level.{Level}
use Rattle.hall_lines.specs.declared.LineRows.{LineRows}
use Rattle.hall_lines.specs.declared.Stop.{Stop}
use Rattle.hall_lines.specs.declared.Decision.{Decision}
use Rattle.hall_lines.specs.Levels.{sums_in, term_in, LevelsKept}
use Rattle.hall_lines.specs.Room.{roomy}
use Rattle.hall_lines.specs.Lines.{Opening, Removing, OwnDue, Answers, NoFound, StopFound, StayFound, OutFound, first_stop_lem, stop_due}
use Rattle.hall_lines.proofs.Levels.{levels_none}
use Rattle.hall_steps.specs.Steps.{level_in}
use Rattle.hall_state.specs.declared.Ground.{Ground}
use Rattle.hall_state.specs.declared.Question.TheVariants.{LineStop, PartRemoval}
use Rattle.hall_state.specs.declared.Spot.{Spot}
use Rattle.hall_state.specs.Courses.{Arrays, no_rows, tables_at, rows_at, Course, course_in, level_slot, stopped_slot, slot_by, line_slot, slots_at, LineKept, BestSame, OthersSame}
use Rattle.hall_state.specs.Spots.{line_spot, stop_spot, left_below, OnCourse}
use Rattle.hall_state.specs.Moves.{Below}
use Rattle.hall_state.proofs.Courses.{self_kept, slot_in, others_own, line_given, job_here}
use Rattle.hall_state.proofs.Left.{topic_at, raised, raised_asks, raised_no, raised_yes}
use Rattle.hall_state.proofs.Stops.{stop_less, stop_four, on_stop, is_stop, stop_given, stop_holds}
use Rattle.hall_state.proofs.Moves.{GoesOn, LineMoved, asked_near, line_below}
use Rattle.hall_state.proofs.Spots.{here_level, here_open, next_level, on_past, no_follows, yes_follows, stop_on, removal_follows}
use Rattle.hall_moves.specs.Asks.{Asking}

-- ---- one line's rows written

-- where the rows of line d are written, line d has what was written
pub at_same : (a : Arrays) (d : ℕ) (o : LineRows) → length a ≡ 4 → d < 4 → rows_at (set a d o) d ≡ o
at_same a d o e l = get_or-set_same a d o no_rows (omega (arith, e, l))

-- writing the rows of line d leaves the other lines as before
pub others_set : (a : Arrays) (d : ℕ) (o : LineRows) → OthersSame d a (set a d o)
others_set a d o = record { size = length-set a d o; same = λ e n. get_or-set_other a d e o no_rows n }

-- ---- the spot below, if there is one

-- the spot of what a line's function answers, if it answers one
abbrev pub spots : {A : Type 0} → (A → Spot) → Option A → Option Spot
spots f None = None
spots f (Some q) = Some (f q)

module _ {hall : Hall} {x : Bool} {g : Ground} {a' : Arrays} {p : Spot} {cs : List Course} {d limit : ℕ} {s : Search} {A : Type 0} {total : A → ℕ} {e : Bound} (h rest : ℕ) {r : Option A} (spot : A → Spot) (answers : Answers total limit (rest + h) e s r)
    (on : (q : A) → r ≡ Some q → ((spot q).total ≡ total q) × GoesOn hall x g a' p (spot q) cs d) where
  closes : (t : Option A) → r ≡ t → spots spot t ≡ None → open_s limit (rest + h) e s ≡ Missing
  closes None f z = answers.closed f
  closes (Some q) f z = absurd (none-some (spot q) (sym z))

  opens : (t : Option A) → r ≡ t → (u : Spot) → spots spot t ≡ Some u → (y : ℕ) × (open_s limit (rest + h) e s ≡ Sum y) × (u.total ≡ rest + h + y) × GoesOn hall x g a' p u cs d
  opens None f u z = absurd (none-some u z)
  opens (Some q) f u z =
      let w = same_Some (spot q) u z in
      let y = answers.opened q f in
      let o = on q f in
      subst (λ (v : Spot). (n : ℕ) × (open_s limit (rest + h) e s ≡ Sum n) × (v.total ≡ rest + h + n) × GoesOn hall x g a' p v cs d) w (y.0, y.1, o.0 ∙ y.2, o.1)

  -- what a line's function answers is a line's move
  pub line_moved : {a : Arrays} → OthersSame d a a' → LineKept g a a' d (course_in cs d) → BestSame (rows_at a d).v (rows_at a' d).v (course_in cs d).sheet → OwnDue (course_in cs d).sheet (course_in cs d).blocks x e ((course_in cs d).paid + h)
      → rest + slot_bound (line_slot g a d (course_in cs d)) ≡ p.total + (course_in cs d).paid → LineMoved hall x g a a' p (spots spot r) cs d limit s
  line_moved {a} others own best due rest-is = record { others = others; own = own; best = best; e = e; h = h; rest = rest; due = due; rest-is = rest-is; closed = λ z. closes r refl z; opened = λ u z. opens r refl u z }

-- a node below, by an equal answer and an equal spot
pub below_as : {hall : Hall} {g : Ground} {a a' : Arrays} {p : Spot} {name : List Bool} {cs : List Course} {limit : ℕ} {s : Search} {x y : Bool} {q r : Option Spot} → x ≡ y → q ≡ r → Below hall y g a a' p r name cs limit s → Below hall x g a a' p q name cs limit s
below_as {hall} {g} {a} {a'} {p} {name} {cs} {limit} {s} {x} {y} {q} {r} e f b = subst (λ (z : Bool). Below hall z g a a' p q name cs limit s) (sym e) (subst (λ (t : Option Spot). Below hall y g a a' p t name cs limit s) (sym f) b)

-- ---- at a line's question

module _ {hall : Hall} {g : Ground} {a : Arrays} {p : Spot} {name : List Bool} {calls : ℕ} {cs : List Course} (k : Asking hall g a p name calls cs) where
  abbrev d : ℕ
  d = p.line

  abbrev c : Course
  c = course_in cs d

  -- the hall's estimate is small, so what a line can add to it fits
  pub room : (rest : ℕ) → rest ≤ p.total → roomy rest
  room rest l =
      let at = k.stood.at in
      omega (arith, l, k.stood.total, at.poor, asked_near hall g.ats p k.crewed k.stood.formed, lines_most hall name (lines_of hall) (slots_at g a 0 cs) at.lines, lines_length 0 hall.jobs, k.crewed.fits.few)

  -- the question, and what is left after each answer
  asks_line_lem : topic_at hall p.step p.line p.asks ≡ line d → Asks (agenda_of hall) name (line d)
  asks_line_lem e = subst (Asks (agenda_of hall) name) e (raised_asks (raised hall k.crewed.table k.stood.formed k.asked) (agenda_of hall) name k.stood.stands)

  -- after either answer, what the spot below leaves is what is left to ask there
  pub stands_after : (x : Bool) → Stands (agenda_of hall) (snoc name x) (left_below hall x p)
  stands_after false = raised_no (raised hall k.crewed.table k.stood.formed k.asked) (agenda_of hall) name k.stood.stands
  stands_after true = raised_yes (raised hall k.crewed.table k.stood.formed k.asked) (agenda_of hall) name k.stood.stands

  module _ (e : p.asks ≡ LineStop) where
    -- the line asked at a line's question has a course
    pub line_less : d < length cs
    line_less = omega (arith, (k.asked.line e).0, k.stood.count)

    -- the line asked at a line's question is one of four
    pub line_four : d < 4
    line_four = omega (arith, (k.asked.line e).0, k.crewed.fits.few)

    on : OnCourse g.ats p d c
    on = k.stood.courses d line_less

    -- the line's slot
    is_level : (b : Arrays) → line_slot g b d c ≡ level_slot g b d c
    is_level b = ap (λ (t : Option Stop). slot_by t g b d c) (here_open k.crewed k.stood.formed k.asked e on)

    module _ {at : ℕ} (is : at ≡ level_in g.ats.before p.step d) where
      same_level : c.at ≡ at
      same_level = here_level on ∙ sym is

      -- an opening is left to the line, at this level
      pub line_opening : Opening c.sheet c.blocks (tables_at g d) (rows_at a d) at c.paid
      line_opening =
          let j = job_here hall name g a cs d line_less k.stood.at.lines in
          let up = k.crewed.table.within (p.step + 1) d j.job (omega (arith, (k.stood.formed.line e).0)) j.placed in
          subst (λ (x : ℕ). Opening c.sheet c.blocks (tables_at g d) (rows_at a d) x c.paid) same_level
          (record {
            given = subst Given (is_level a) (line_given hall name g a cs d line_less k.stood.at.lines);
            less = omega (arith, up, j.openings, here_level on, next_level k.crewed k.stood.formed k.asked e);
          })

      -- its estimate
      own_is : slot_bound (line_slot g a d c) ≡ c.paid + sums_in (rows_at a d).n at + term_in (rows_at a d).n at
      own_is = ap slot_bound (is_level a) ∙ ap (λ (x : ℕ). c.paid + sums_in (rows_at a d).n x + term_in (rows_at a d).n x) same_level

      -- its part sums and term are within the hall's estimate
      pub own_most : sums_in (rows_at a d).n at + term_in (rows_at a d).n at ≤ p.total
      own_most = omega (arith, own_is, k.stood.total, others_own d (slots_at g a 0 cs) (line_slot g a d c) (slot_in g a d cs line_less))

      -- the level of the line asked is below 64
      pub level_near : at < 64
      level_near = omega (arith, line_opening.less, line_opening.given.tables.few)

      module _ (size : length a ≡ 4) (limit rest : ℕ) (s : Search) (rest-is : rest + (sums_in (rows_at a d).n at + term_in (rows_at a d).n at) ≡ p.total) (o₁ : LineRows) where
        abbrev a₁ : Arrays
        a₁ = set a d o₁

        same_rows : o₁ ≡ rows_at a₁ d
        same_rows = sym (at_same a d o₁ size line_four)

        rest_of : rest + slot_bound (line_slot g a d c) ≡ p.total + c.paid
        rest_of = omega (arith, rest-is, own_is)

        -- what is kept of a line at its level
        kept : SlotKept (level_slot g a d c) (level_slot g a₁ d c) → LevelsKept (rows_at a d).n (rows_at a₁ d).n (c.at + 1) → LineKept g a a₁ d c
        kept f l = record { slot = subst (λ (x : Slot). SlotKept x (line_slot g a₁ d c)) (sym (is_level a)) (subst (SlotKept (level_slot g a d c)) (sym (is_level a₁)) f); levels = l }

        -- ---- no stop

        -- what a line's no finds is the hall's node below, tested
        pub no_below : {r : Option ℕ} → NoFound c.sheet c.blocks (tables_at g d) (rows_at a d) o₁ at c.paid limit rest s r → Below hall false g a a₁ p (spots (λ (z : ℕ). line_spot p (d + 1) z) r) name cs limit s
        no_below {r} found₀ =
            let found : NoFound c.sheet c.blocks (tables_at g d) (rows_at a d) (rows_at a₁ d) c.at c.paid limit rest s r = subst (λ (o : LineRows). NoFound c.sheet c.blocks (tables_at g d) (rows_at a d) o c.at c.paid limit rest s r) same_rows
            (subst (λ (x : ℕ). NoFound c.sheet c.blocks (tables_at g d) (rows_at a d) o₁ x c.paid limit rest s r) (sym same_level) found₀) in
            let c' : Course = record { sheet = c.sheet; blocks = no_blocks_lem c.blocks; paid = c.paid; at = c.at + 1; stop = None } in
            line_below k.crewed k.stood (asks_line_lem (ap (topic_at hall p.step p.line) e)) line_less
            (line_moved found.h rest (λ (z : ℕ). line_spot p (d + 1) z) found.answers
            (λ z f. (
              refl,
              record {
                course = c';
                goes = subst (λ (x : Slot). Goes false x (line_slot g a₁ d c')) (sym (is_level a₁)) (found.goes z f);
                sheet = refl;
                later = omega arith;
                on = on_past z on (next_level k.crewed k.stood.formed k.asked e) c' refl refl;
                follows = no_follows k.crewed k.stood.formed k.asked e z;
              },
            )) (others_set a d o₁) (kept found.kept found.levels) (subst (λ (v : List ℕ). BestSame (rows_at a d).v v c.sheet) (sym found.aside) (λ i l. refl)) found.due rest_of) (stands_after false)

        -- ---- a stop

        -- what a line's stop finds is the hall's node below, tested
        pub yes_below : {r : Option ℕ} → StopFound c.sheet c.blocks (tables_at g d) (rows_at a d) o₁ at c.paid limit rest s r
            → Below hall true g a a₁ p (spots (λ (z : ℕ). stop_spot p (first_stop_lem (tables_at g d).u (rows_at a d).n at) z) r) name cs limit s
        yes_below {r} found₀ =
            let found : StopFound c.sheet c.blocks (tables_at g d) (rows_at a d) (rows_at a₁ d) c.at c.paid limit rest s r = subst (λ (o : LineRows). StopFound c.sheet c.blocks (tables_at g d) (rows_at a d) o c.at c.paid limit rest s r) same_rows
            (subst (λ (x : ℕ). StopFound c.sheet c.blocks (tables_at g d) (rows_at a d) o₁ x c.paid limit rest s r) (sym same_level) found₀) in
            let stop : Stop = first_stop_lem (tables_at g d).u (rows_at a d).n c.at in
            let c' : Course = record { sheet = c.sheet; blocks = yes_blocks c.blocks; paid = c.paid + get_or (tables_at g d).t (fee_place c.at) 0; at = c.at; stop = Some stop } in
            subst (λ (x : ℕ). Below hall true g a a₁ p (spots (λ (z : ℕ). stop_spot p (first_stop_lem (tables_at g d).u (rows_at a d).n x) z) r) name cs limit s) same_level
            (line_below k.crewed k.stood (asks_line_lem (ap (topic_at hall p.step p.line) e)) line_less
            (line_moved (stop_due (tables_at g d) c.at) rest (λ (z : ℕ). stop_spot p stop z) found.answers
            (λ z f. (
              refl,
              record {
                course = c';
                goes = subst (λ (x : Slot). Goes true x (line_slot g a₁ d c')) (sym (is_level a₁)) (found.goes z f);
                sheet = refl;
                later = omega arith;
                on = stop_on stop z on c' refl refl;
                follows = yes_follows k.crewed k.stood.formed k.asked e stop z refl;
              },
            )) (others_set a d o₁) (kept found.kept (subst (λ (n : List Level). LevelsKept (rows_at a d).n n (c.at + 1)) (sym found.levels) (levels_none (rows_at a d).n (c.at + 1)))) found.best found.due rest_of) (stands_after true))

  -- ---- at a removal

  module _ {stop : Stop} (e : p.asks ≡ PartRemoval stop) where
    less : d < length cs
    less = stop_less k.crewed k.stood e

    on_here : OnCourse g.ats p d c
    on_here = on_stop k.crewed k.stood e

    is_here : (b : Arrays) → line_slot g b d c ≡ stopped_slot g b d c stop
    is_here = is_stop k.crewed k.stood e

    -- where a removal is asked one is open, at the line's own level
    pub removing_here : Removing c.sheet c.blocks (tables_at g d) (rows_at a d) c.at c.paid stop
    removing_here = record { given = stop_given k.crewed k.stood e; left = omega (arith, k.asked.removal stop e, stop_holds k.crewed k.stood e) }

    few : stop.next < 16
    few = omega (arith, removing_here.left, removing_here.given.holders.parts)

    -- the part sums and the term of the stop at hand are within the hall's estimate
    pub stop_most : stop.sums + stop.term ≤ p.total
    stop_most =
        let z = ap slot_bound (is_here a) in
        omega (arith, z, k.stood.total, others_own d (slots_at g a 0 cs) (line_slot g a d c) (slot_in g a d cs less))

    -- where a removal is asked one is open, at the level that is read
    pub removing_at : {at : ℕ} → at ≡ level_in g.ats.before p.step d → Removing c.sheet c.blocks (tables_at g d) (rows_at a d) at c.paid stop
    removing_at {at} is = subst (λ (x : ℕ). Removing c.sheet c.blocks (tables_at g d) (rows_at a d) x c.paid stop) (here_level on_here ∙ sym is) removing_here

    -- a part more is decided: the line's course then
    abbrev decided : List (List Bool) → ℕ → Decision → Course
    decided ds paid q = record { sheet = c.sheet; blocks = ds; paid = paid; at = c.at; stop = Some q.stop }

    module _ (limit rest : ℕ) (s : Search) (rest-is : rest + (stop.sums + stop.term) ≡ p.total) where
      stop_rest : rest + slot_bound (line_slot g a d c) ≡ p.total + c.paid
      stop_rest = let z = ap slot_bound (is_here a) in omega (arith, rest-is, z)

      -- where a part is not removed, what the line finds is the hall's node below, tested
      pub stays_below : length a ≡ 4 → {at : ℕ} → at ≡ level_in g.ats.before p.step d → {o₁ : LineRows} {r : Option Decision} → StayFound c.sheet c.blocks (tables_at g d) (rows_at a d) o₁ at c.paid stop limit rest s r
          → Below hall false g a (set a d o₁) p (spots (λ (q : Decision). stop_spot p q.stop q.total) r) name cs limit s
      stays_below size {at} is {o₁} {r} found₀ =
          let a₃ : Arrays = set a d o₁ in
          let found : StayFound c.sheet c.blocks (tables_at g d) (rows_at a d) (rows_at a₃ d) c.at c.paid stop limit rest s r = subst (λ (o : LineRows). StayFound c.sheet c.blocks (tables_at g d) (rows_at a d) o c.at c.paid stop limit rest s r) (sym (at_same a d o₁ size (stop_four k.crewed k.stood e)))
          (subst (λ (x : ℕ). StayFound c.sheet c.blocks (tables_at g d) (rows_at a d) o₁ x c.paid stop limit rest s r) (is ∙ sym (here_level on_here)) found₀) in
          line_below k.crewed k.stood (asks_line_lem (ap (topic_at hall p.step p.line) e)) less
          (line_moved {e = sum_where found.h found.y} found.h rest (λ (q : Decision). stop_spot p q.stop q.total) found.answers
          (λ q f.
          let m = found.goes q f in (
            refl,
            record {
              course = decided m.1.0 c.paid q;
              goes = subst (λ (x : Slot). Goes false x (line_slot g a₃ d (decided m.1.0 c.paid q))) (sym (is_here a₃)) m.1.1;
              sheet = refl;
              later = omega arith;
              on = stop_on q.stop q.total on_here (decided m.1.0 c.paid q) refl refl;
              follows = removal_follows k.stood.formed e false q.stop q.total m.0 few;
            },
          )) (others_set a d o₁)
          (record { slot = subst (λ (x : Slot). SlotKept x (line_slot g a₃ d c)) (sym (is_here a)) (subst (SlotKept (stopped_slot g a d c stop)) (sym (is_here a₃)) found.kept); levels = subst (λ (n : List Level). LevelsKept (rows_at a d).n n (c.at + 1)) (sym found.levels) (levels_none (rows_at a d).n (c.at + 1)) })
          (subst (λ (v : List ℕ). BestSame (rows_at a d).v v c.sheet) (sym found.aside) (λ i l. refl)) found.due stop_rest) (stands_after false)

      -- where a part is removed, what the line finds is the hall's node below, tested, with nothing written
      pub out_below : {r : Option Decision} → OutFound c.sheet c.blocks (tables_at g d) (rows_at a d) c.at c.paid stop limit rest s r → Below hall true g a a p (spots (λ (q : Decision). stop_spot p q.stop q.total) r) name cs limit s
      out_below {r} found =
          let paid = c.paid + get_or (tables_at g d).u (removal_place stop.next) 0 in
          line_below k.crewed k.stood (asks_line_lem (ap (topic_at hall p.step p.line) e)) less
          (line_moved (get_or (tables_at g d).u (removal_place stop.next) 0 + stop.term) rest (λ (q : Decision). stop_spot p q.stop q.total) found.answers
          (λ q f.
          let m = found.goes q f in (
            refl,
            record {
              course = decided m.1.0 paid q;
              goes = subst (λ (x : Slot). Goes true x (line_slot g a d (decided m.1.0 paid q))) (sym (is_here a)) m.1.1;
              sheet = refl;
              later = omega arith;
              on = stop_on q.stop q.total on_here (decided m.1.0 paid q) refl refl;
              follows = removal_follows k.stood.formed e true q.stop q.total m.0 few;
            },
          )) (record { size = refl; same = λ i n. refl }) (self_kept g a d c (line_given hall name g a cs d less k.stood.at.lines)) (λ i l. refl) found.due stop_rest) (stands_after true)
