-- The spots below a line's question and below a removal: nothing but that line's course moves.
use Prim.Native.Nat.{ℕ, ◌+◌, ◌-◌, ◌*◌, ◌<◌}
use mathlib.Core.Path.{◌≡◌, refl, sym, ap, ◌∙◌}
use mathlib.Core.Bool.{Bool, true, false, cond}
use Rattle.std.specs.Prelude.{Some, None}
use native.Mathlib.Omega.{arith}
use native.Mathlib.Decide.{dec_lt}
use borrow.Author.Tests.{lt-ltb, le-ltb, eq-eqb, ne_eqb}
use lib.Dec.{ltb, eqb}
use Rattle.hall_model.specs.Hall.{Hall}
use Rattle.hall_lines.specs.declared.Stop.{Stop}
use Rattle.hall_steps.specs.Steps.{level_in}
use Rattle.hall_state.specs.declared.Question.{Question}
use Rattle.hall_state.specs.declared.Question.TheVariants.{LineStop, PartRemoval}
use Rattle.hall_steps.specs.declared.CrewSteps.{CrewSteps}
use Rattle.hall_state.specs.declared.Spot.{Spot}
use Rattle.hall_state.specs.Courses.{Course}
use Rattle.hall_state.specs.Spots.{inner_at, line_left, line_spot, stop_spot, below_at, left_below, stop_by, OnCourse, Formed, asked_in, asked_of, Asked}
use Rattle.hall_state.specs.Moves.{measure_in, measure_of, Crewed}
use Rattle.hall_state.proofs.Moves.{Follows}

-- the second of two, and the first
pub cond_no : {A : Type 0} {b : Bool} (x y : A) → b ≡ false → cond b x y ≡ y
cond_no {A} {b} x y e = ap (λ (c : Bool). cond c x y) e

-- the first of two is chosen where the test says true
pub cond_yes : {A : Type 0} {b : Bool} (x y : A) → b ≡ true → cond b x y ≡ x
cond_yes {A} {b} x y e = ap (λ (c : Bool). cond c x y) e

-- a place that is not d is before d exactly where it is before the next one
pub before_next : (e d : ℕ) → (e ≡ d → ⊥) → ltb e (d + 1) ≡ ltb e d
before_next e d n = go (dec_lt e d)
  where
    go : Dec (e < d) → ltb e (d + 1) ≡ ltb e d
    go (yes l) = lt-ltb e (d + 1) (omega (arith, l)) ∙ sym (lt-ltb e d l)
    go (no l) = le-ltb e (d + 1) (omega (arith, l, n)) ∙ sym (le-ltb e d (omega (arith, l)))

-- the line at hand has decided the openings of the step's level
pub here_level : {ats : CrewSteps} {p : Spot} {c : Course} → OnCourse ats p p.line c → c.at ≡ level_in ats.before p.step p.line
here_level {ats} {p} {c} o = o.level ∙ cond_no (level_in ats.before (p.step + 1) p.line) (level_in ats.before p.step p.line) (le-ltb p.line p.line (omega arith))

-- another line is at no stop
pub elsewhere : {ats : CrewSteps} {p : Spot} {stop : Stop} {e : ℕ} {c : Course} → p.asks ≡ PartRemoval stop → (e ≡ p.line → ⊥) → OnCourse ats p e c → c.stop ≡ None
elsewhere {ats} {p} {stop} {e} {c} er n o = o.stop ∙ ap (λ (q : Question). stop_by q (eqb e p.line)) er ∙ ap (stop_by (PartRemoval stop)) (ne_eqb e p.line n)

-- the line at hand, at the same level and that stop, is on course at the stop
pub stop_on : {ats : CrewSteps} {p : Spot} {c : Course} (stop : Stop) (total : ℕ) → OnCourse ats p p.line c → (c' : Course) → c'.at ≡ c.at → c'.stop ≡ Some stop → OnCourse ats (stop_spot p stop total) p.line c'
stop_on {ats} {p} {c} stop total o c' e t = record { level = e ∙ o.level; stop = t ∙ sym (ap (stop_by (PartRemoval stop)) (eq-eqb p.line p.line refl)) }

-- a line whose level is that before the line at hand moves on, at no stop, is on course at the lines from the next place on
pub past_on : {ats : CrewSteps} {p : Spot} {e : ℕ} {c : Course} (total : ℕ) → (e ≡ p.line → ⊥) → OnCourse ats p e c → c.stop ≡ None → OnCourse ats (line_spot p (p.line + 1) total) e c
past_on {ats} {p} {e} {c} total n o s = record { level = o.level ∙ ap (λ (b : Bool). cond b (level_in ats.before (p.step + 1) e) (level_in ats.before p.step e)) (sym (before_next e p.line n)); stop = s }

-- the line at hand, one opening later and at no stop, is on course there
pub on_past : {ats : CrewSteps} {p : Spot} {c : Course} (total : ℕ) → OnCourse ats p p.line c → level_in ats.before (p.step + 1) p.line ≡ level_in ats.before p.step p.line + 1 → (c' : Course) → c'.at ≡ c.at + 1 → c'.stop ≡ None → OnCourse ats (line_spot p (p.line + 1) total) p.line c'
on_past {ats} {p} {c} total o up c' e s = record {
  level = omega (arith, e, here_level o, up) ∙ sym (cond_yes (level_in ats.before (p.step + 1) p.line) (level_in ats.before p.step p.line) (lt-ltb p.line (p.line + 1) (omega arith)));
  stop = s;
}

-- ---- below a line's question

module _ {hall : Hall} {ats : CrewSteps} {p : Spot} (crewed : Crewed hall ats) (f : Formed hall ats p) (a : Asked hall ats p) (e : p.asks ≡ LineStop) where
  line_measure : measure_of p ≡ (64 - p.step) * 128 + ((5 - p.line) * 20 + 18)
  line_measure = ap (λ (q : Question). (64 - p.step) * 128 + measure_in p.line q) e

  asked_one : p.step + 1 ≡ asked_of p
  asked_one = ap (λ (q : Question). p.step + asked_in q) (sym e)

  below_line : (x : Bool) → left_below hall x p ≡ below_at hall x p.step p.line LineStop
  below_line x = ap (below_at hall x p.step p.line) e

  -- where a line's question is asked, no line's course is at a stop
  pub here_open : {d : ℕ} {c : Course} → OnCourse ats p d c → c.stop ≡ None
  here_open {d} {c} o = o.stop ∙ ap (λ (q : Question). stop_by q (eqb d p.line)) e

  -- one opening more behind the step
  pub next_level : level_in ats.before (p.step + 1) p.line ≡ level_in ats.before p.step p.line + 1
  next_level = crewed.table.rises p.step p.line (f.line e).0 (a.line e).0 ∙ ap (λ (b : Bool). level_in ats.before p.step p.line + cond b 1 0) (a.line e).1

  -- after a no the spot of the lines from the next place on follows, for the line at hand
  pub no_follows : (total : ℕ) → Follows hall false ats p (line_spot p (p.line + 1) total) p.line
  no_follows total = record {
    formed = record { call = λ z. cc; line = λ _. ((f.line e).0, omega (arith, (a.line e).0)); removal = λ stop z. cc };
    asked = asked_one;
    left = sym (below_line false);
    others = λ i c n o. past_on total n o (here_open o);
    measure = omega (arith, line_measure, (a.line e).0, crewed.fits.few);
  }

  -- after a yes the spot of a stop with no removal decided follows, for the line at hand
  pub yes_follows : (stop : Stop) (total : ℕ) → stop.next ≡ 0 → Follows hall true ats p (stop_spot p stop total) p.line
  yes_follows stop total z = record {
    formed = record { call = λ y. cc; line = λ y. cc; removal = λ _ _. ((f.line e).0, (a.line e).0, (a.line e).1) };
    asked = asked_one;
    left = ap (λ (k : ℕ). line_left hall p.step (inner_at hall.jobs p.line - k) (p.line + 1)) z ∙ sym (below_line true);
    others = λ i c n o. record { level = o.level; stop = here_open o ∙ sym (ap (stop_by (PartRemoval stop)) (ne_eqb i p.line n)) };
    measure = omega (arith, line_measure, z);
  }

-- ---- below a removal

module _ {hall : Hall} {ats : CrewSteps} {p : Spot} {stop : Stop} (f : Formed hall ats p) (e : p.asks ≡ PartRemoval stop) where
  -- how much is left to decide where a removal is asked
  pub removal_measure : measure_of p ≡ (64 - p.step) * 128 + ((5 - p.line) * 20 + (16 - stop.next))
  removal_measure = ap (λ (q : Question). (64 - p.step) * 128 + measure_in p.line q) e

  below_stop_lem : (x : Bool) → left_below hall x p ≡ below_at hall x p.step p.line (PartRemoval stop)
  below_stop_lem x = ap (below_at hall x p.step p.line) e

  -- the line at hand of a removal is at its stop
  pub stop_stopped : {c : Course} → OnCourse ats p p.line c → c.stop ≡ Some stop
  stop_stopped {c} o = o.stop ∙ ap (λ (q : Question). stop_by q (eqb p.line p.line)) e ∙ ap (stop_by (PartRemoval stop)) (eq-eqb p.line p.line refl)

  -- after either answer the spot with one removal more decided follows, for the line at hand
  pub removal_follows : (x : Bool) (r : Stop) (total : ℕ) → r.next ≡ stop.next + 1 → stop.next < 16 → Follows hall x ats p (stop_spot p r total) p.line
  removal_follows x r total z few = record {
    formed = record { call = λ y. cc; line = λ y. cc; removal = λ _ _. f.removal stop e };
    asked = ap (λ (q : Question). p.step + asked_in q) (sym e);
    left = ap (λ (k : ℕ). line_left hall p.step (inner_at hall.jobs p.line - k) (p.line + 1)) z ∙ sym (below_stop_lem x);
    others = λ i c n o. record { level = o.level; stop = elsewhere e n o ∙ sym (ap (stop_by (PartRemoval r)) (ne_eqb i p.line n)) };
    measure = omega (arith, removal_measure, z, few);
  }
