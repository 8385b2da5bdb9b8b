-- Where a removal is asked: the line at hand, and its slot at the stop.
use Prim.Native.Nat.{ℕ, ◌<◌}
use mathlib.Core.Path.{◌≡◌, sym, ap, subst, ◌∙◌}
use mathlib.Core.Bool.{Bool}
use mathlib.Core.List.{List}
use Rattle.std.specs.Prelude.{Option}
use native.Mathlib.Omega.{arith}
use lib.ListN.{length}
use Rattle.held_rows.specs.Held.{held}
use Rattle.hall_model.specs.Hall.{Hall}
use Rattle.hall_nodes.specs.Lines.{Given}
use Rattle.hall_lines.specs.declared.Stop.{Stop}
use Rattle.hall_state.specs.declared.Ground.{Ground}
use Rattle.hall_state.specs.declared.Question.TheVariants.{PartRemoval}
use Rattle.hall_state.specs.declared.Spot.{Spot}
use Rattle.hall_state.specs.Courses.{Arrays, Course, course_in, stopped_slot, slot_by, line_slot}
use Rattle.hall_state.specs.Spots.{inner_at, OnCourse, Stood}
use Rattle.hall_state.specs.Moves.{Crewed}
use Rattle.hall_state.proofs.Courses.{line_given, job_here}
use Rattle.hall_state.proofs.Left.{inner_at_lem}
use Rattle.hall_state.proofs.Spots.{stop_stopped}

module _ {hall : Hall} {g : Ground} {a : Arrays} {p : Spot} {name : List Bool} {calls : ℕ} {cs : List Course} {stop : Stop} (crewed : Crewed hall g.ats) (st : Stood hall g a p name calls cs) (er : p.asks ≡ PartRemoval stop) where
  -- the line at hand of a removal has a course
  pub stop_less : p.line < length cs
  stop_less = omega (arith, (st.formed.removal stop er).1, st.count)

  -- the line at hand of a removal is one of four
  pub stop_four : p.line < 4
  stop_four = omega (arith, (st.formed.removal stop er).1, crewed.fits.few)

  -- the line at hand of a removal is on its course
  pub on_stop : OnCourse g.ats p p.line (course_in cs p.line)
  on_stop = st.courses p.line stop_less

  -- the slot of the line at hand is that of its stop
  pub is_stop : (b : Arrays) → line_slot g b p.line (course_in cs p.line) ≡ stopped_slot g b p.line (course_in cs p.line) stop
  is_stop b = ap (λ (t : Option Stop). slot_by t g b p.line (course_in cs p.line)) (stop_stopped st.formed er on_stop)

  -- the slot of the line at its stop is given
  pub stop_given : Given (stopped_slot g a p.line (course_in cs p.line) stop)
  stop_given = subst Given (is_stop a) (line_given hall name g a cs p.line stop_less st.at.lines)

  -- the line at hand has as many holding parts as its sheet
  pub stop_holds : held (course_in cs p.line).sheet ≡ inner_at hall.jobs p.line
  stop_holds = let j = job_here hall name g a cs p.line stop_less st.at.lines in j.holders ∙ sym (inner_at_lem hall.jobs p.line j.job j.placed)
