-- On to the next line that is open at the step, or the next step: no line's course moves.
use Prim.Native.Nat.{ℕ, ◌+◌, ◌-◌, ◌<◌, ◌≤◌}
use mathlib.Core.Path.{◌≡◌, refl, sym, ap, subst, ◌∙◌}
use mathlib.Core.Bool.{Bool, false, cond}
use mathlib.Core.List.{List}
use native.Mathlib.Omega.{arith}
use native.Mathlib.Decide.{dec_lt}
use borrow.Author.Tests.{lt-ltb, le-ltb}
use lib.ListN.{length}
use Rattle.hall_model.specs.Hall.{Hall}
use Rattle.hall_model.specs.Agenda.{agenda_of}
use Rattle.hall_model.specs.LowerBound.{hall_bound}
use Rattle.hall_nodes.specs.Lines.{HallAt}
use Rattle.hall_steps.specs.Steps.{level_in, open_in, next_open_lem}
use Rattle.hall_steps.specs.Table.{step_count}
use Rattle.hall_steps.proofs.Asked.{next_within, next_opens, next_shut}
use Rattle.hall_state.specs.declared.Ground.{Ground}
use Rattle.hall_state.specs.declared.Question.TheVariants.{CrewCall}
use Rattle.hall_state.specs.declared.Spot.{Spot}
use Rattle.hall_state.specs.Courses.{Arrays, Course, slots_at}
use Rattle.hall_state.specs.Spots.{line_spot, call_spot, left_of, level_of, Stood}
use Rattle.hall_state.specs.Moves.{Crewed, Arrived}
use Rattle.hall_state.proofs.Courses.{same_self}
use Rattle.hall_state.proofs.Left.{SameLeft, same_then, on_line, on_step}
use Rattle.hall_state.proofs.Spots.{cond_no, cond_yes}

module _ {hall : Hall} {g : Ground} {a : Arrays} (p : Spot) (line : ℕ) {name : List Bool} {calls : ℕ} {cs : List Course} (crewed : Crewed hall g.ats) (st : Stood hall g a (line_spot p line p.total) name calls cs) where
  abbrev q : Spot
  q = line_spot p line p.total

  abbrev lines : ℕ
  lines = length hall.jobs

  abbrev d : ℕ
  d = next_open_lem g.ats.before p.step line (lines - line)

  -- the step at hand is one of the hall's
  pub step_in : p.step < step_count hall
  step_in = (st.formed.line refl).0

  -- the line to go on from is at most the number of the hall's lines
  pub line_in : line ≤ lines
  line_in = (st.formed.line refl).1

  -- the next line that is open is not before the line at hand, and at most the number of lines
  pub next_in : (line ≤ d) × (d ≤ lines)
  next_in = let r = next_within g.ats.before p.step line (lines - line) in (r.0, omega (arith, r.1, line_in))

  -- a line that is not open has as many openings behind the step
  shut_same : (e : ℕ) → e < lines → open_in g.ats.before p.step e ≡ false → level_in g.ats.before p.step e ≡ level_in g.ats.before (p.step + 1) e
  shut_same e l f = sym (crewed.table.rises p.step e step_in l ∙ ap (λ (b : Bool). level_in g.ats.before p.step e + cond b 1 0) f ∙ omega arith)

  here_before : (e : ℕ) → e < line → level_of g.ats q e ≡ level_in g.ats.before (p.step + 1) e
  here_before e l = cond_yes (level_in g.ats.before (p.step + 1) e) (level_in g.ats.before p.step e) (lt-ltb e line l)

  here_behind : (e : ℕ) → line ≤ e → level_of g.ats q e ≡ level_in g.ats.before p.step e
  here_behind e l = cond_no (level_in g.ats.before (p.step + 1) e) (level_in g.ats.before p.step e) (le-ltb e line l)

  -- behind the step, of each line before the next that is open
  passed_level : (e : ℕ) → e < lines → e < d → level_of g.ats q e ≡ level_in g.ats.before (p.step + 1) e
  passed_level e l m = go (dec_lt e line)
    where
      go : Dec (e < line) → level_of g.ats q e ≡ level_in g.ats.before (p.step + 1) e
      go (yes h) = here_before e h
      go (no h) = here_behind e (omega (arith, h)) ∙ shut_same e l (next_shut g.ats.before p.step line (lines - line) e (omega (arith, h)) m)

  -- ---- a line that is open

  module _ (less : d < lines) where
    abbrev r : Spot
    r = line_spot p d p.total

    level_line : (e : ℕ) → e < lines → level_of g.ats q e ≡ level_of g.ats r e
    level_line e l = go (dec_lt e d)
      where
        go : Dec (e < d) → level_of g.ats q e ≡ level_of g.ats r e
        go (yes h) = passed_level e l h ∙ sym (cond_yes (level_in g.ats.before (p.step + 1) e) (level_in g.ats.before p.step e) (lt-ltb e d h))
        go (no h) = here_behind e (omega (arith, h, next_in.0)) ∙ sym (cond_no (level_in g.ats.before (p.step + 1) e) (level_in g.ats.before p.step e) (le-ltb e d (omega (arith, h))))

    same_line : SameLeft (left_of hall q) (left_of hall r)
    same_line = on_line hall g.ats p.step line (lines - line) crewed.table step_in (omega (arith, line_in))

    -- where a line is still open at the step, the walk arrives at its question with nothing written
    pub onto_line : Arrived hall g a a q r name calls cs
    onto_line = record {
      courses = cs;
      stood = record {
        formed = record { call = λ e. cc; line = λ _. (step_in, next_in.1); removal = λ _ e. cc };
        at = st.at;
        stands = same_line.stands (agenda_of hall) name st.stands;
        count = st.count;
        courses = λ e l. let o = st.courses e l in record { level = o.level ∙ level_line e (omega (arith, l, st.count)); stop = o.stop };
        total = st.total;
      };
      asked = λ _. record {
        call = λ e. cc;
        line = λ _. (less, next_opens g.ats.before p.step line (lines - line) (omega (arith, less, line_in)));
        removal = λ _ e. cc;
      };
      tree = same_line.tree (hall_bound hall) name;
      same = same_self a cs;
      kept = λ a'' k. k;
      measure = omega (arith, next_in.0);
    }

  -- ---- the next step

  module _ (end : lines ≤ d) where
    abbrev n : Spot
    n = call_spot p p.total

    level_step : (e : ℕ) → e < lines → level_of g.ats q e ≡ level_of g.ats n e
    level_step e l = passed_level e l (omega (arith, l, end)) ∙ sym (cond_no (level_in g.ats.before (p.step + 1 + 1) e) (level_in g.ats.before (p.step + 1) e) (le-ltb e 0 (omega arith)))

    same_step : SameLeft (left_of hall q) (left_of hall n)
    same_step = same_then (on_line hall g.ats p.step line (lines - line) crewed.table step_in (omega (arith, line_in))) (on_step hall p.step d end)

    -- where no line is open any more at the step, the walk arrives at the next step's call with nothing written
    pub onto_step : Arrived hall g a a q n name calls cs
    onto_step = record {
      courses = cs;
      stood = record {
        formed = record { call = λ _. (omega (arith, step_in), refl); line = λ e. cc; removal = λ _ e. cc };
        at = (let z : p.step + 1 ≡ p.step + 1 + 0 = omega arith in subst (λ (m : ℕ). HallAt hall name m calls (slots_at g a 0 cs)) z st.at);
        stands = same_step.stands (agenda_of hall) name st.stands;
        count = st.count;
        courses = λ e l. let o = st.courses e l in record { level = o.level ∙ level_step e (omega (arith, l, st.count)); stop = o.stop };
        total = st.total;
      };
      asked = λ f. record { call = λ _. more f; line = λ e. cc; removal = λ _ e. cc };
      tree = same_step.tree (hall_bound hall) name;
      same = same_self a cs;
      kept = λ a'' k. k;
      measure = omega (arith, step_in, crewed.table.few);
    }
      where
        more : (CrewCall ≡ CrewCall → p.step + 1 ≡ step_count hall → ⊥) → p.step + 1 < step_count hall
        more f = go (dec_lt (p.step + 1) (step_count hall))
          where
            go : Dec (p.step + 1 < step_count hall) → p.step + 1 < step_count hall
            go (yes h) = h
            go (no h) = absurd (f refl (omega (arith, h, step_in)))
