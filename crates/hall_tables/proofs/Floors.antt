-- The hall's floor, line by line: what is summed up so far, and the floors of the lines that are left.
use Prim.Native.Nat.{ℕ, zero, suc, ◌+◌, ◌≤◌, ◌<◌}
use mathlib.Core.Path.{◌≡◌, refl, sym, ap, subst, ◌∙◌}
use mathlib.Core.List.{List, [], ◌∷◌}
use native.Mathlib.Omega.{arith}
use native.Mathlib.Numerals.{add-one}
use lib.ListN.{length, set, drop}
use lib.Seq.{get_or-set_same, get_or-set_other}
use native.Mathlib.Decide.{ℕ_discrete}
use Rattle.std.proofs.lemmas.List.{drop_all}
use Rattle.branch.specs.declared.Bound.{Bound}
use Rattle.branch.specs.declared.Bound.TheVariants.{Missing, Sum}
use Rattle.branch.specs.Lower.{add, total}
use Rattle.branch.proofs.Bounds.{sum_inj}
use Rattle.model.specs.Model.{Job}
use Rattle.model.specs.Decisions.{concat}
use Rattle.model.specs.LowerBound.{bound_of}
use Rattle.held_rows.proofs.Sheets.{held_bound_lem}
use Rattle.hall_model.specs.Hall.{Hall, Placed}
use Rattle.hall_model.specs.Agenda.{agenda_of, Line, lines_from, to_line, to_crew}
use Rattle.hall_model.specs.LowerBound.{line_bound, priced, hall_bound}
use Rattle.hall_model.proofs.Roots.{hear_nothing}
use Rattle.hall_nodes.specs.Lines.{slot_bound}
use Rattle.hall_nodes.proofs.Bounds.{slot_most, slot_bound_lem, slot_most_lem}
use Rattle.hall_nodes.proofs.Due.{line_missing}
use Rattle.hall_lines.specs.declared.LineTables.{LineTables}
use Rattle.hall_lines.specs.declared.LineRows.{LineRows}
use Rattle.hall_lines.specs.Lines.{open_slot}
use Rattle.hall_state.specs.Courses.{Arrays, no_rows, rows_at}
use Rattle.hall_tables.specs.Filled.{LineFilled, Begun, tables_in}

-- a number before a sum of bounds
sum_first : (a b : ℕ) (r : Bound) → add (Sum a) (add (Sum b) r) ≡ add (Sum (a + b)) r
sum_first a b Missing = refl
sum_first a b (Sum x) = ap Sum (omega arith)

-- the lines from a line's place on
drop_placed : (jobs : List Job) (d : ℕ) (job : Job) → Placed jobs d job → drop d jobs ≡ job ∷ drop (suc d) jobs
drop_placed [] d job at = absurd at
drop_placed (j ∷ jobs) zero job at = ap (λ (x : Job). x ∷ jobs) at
drop_placed (j ∷ jobs) (suc d) job at = drop_placed jobs d job at

module _ (hall : Hall) where
  -- what the lines from place d on add to the floor
  abbrev pub left_floor : ℕ → Bound
  left_floor d = total (line_bound hall) (lines_from d (drop d hall.jobs)) []

  -- before the first line the floor is what all lines add
  pub floor_first : add (Sum 0) (left_floor 0) ≡ hall_bound hall []
  unfolding hall_bound
  floor_first = sym (ap (λ cs. add (Sum (priced hall.call cs)) (left_floor 0)) (hear_nothing to_crew (agenda_of hall)))

  -- behind the last line none is left
  pub floor_last : (n d : ℕ) → length hall.jobs ≤ d → add (Sum n) (left_floor d) ≡ hall_bound hall [] → Sum n ≡ hall_bound hall []
  unfolding lines_from
  floor_last n d l e =
      let z : n ≡ n + 0 = omega arith in
      ap Sum z ∙ sym (ap (λ (jobs : List Job). add (Sum n) (total (line_bound hall) (lines_from d jobs) [])) (drop_all d hall.jobs l)) ∙ e

  module _ (d : ℕ) (job : Job) (at : Placed hall.jobs d job) {tb : LineTables} {o : LineRows} {r : Bound} (f : LineFilled job tb o r) where
    abbrev ln : Line
    ln = record { place = d; job = job }

    -- a line's floor is its estimate where nothing is decided
    line_floor : line_bound hall ln [] ≡ r
    line_floor = ap (bound_of job) (hear_nothing (to_line ln) (agenda_of hall)) ∙ sym (held_bound_lem job f.sheet f.holds []) ∙ sym f.begun.floor

    -- where a line has no plan there is no floor
    pub floor_gone : r ≡ Missing → hall_bound hall [] ≡ Missing
    floor_gone e = line_missing hall [] d job at (line_floor ∙ e)

    module _ (b : ℕ) (is : r ≡ Sum b) where
      -- the line's floor goes over to the sum so far
      pub floor_on : (n : ℕ) → add (Sum n) (left_floor d) ≡ hall_bound hall [] → add (Sum (n + b)) (left_floor (d + 1)) ≡ hall_bound hall []
      unfolding lines_from
      floor_on n e =
          ap (λ (k : ℕ). add (Sum (n + b)) (left_floor k)) (add-one d)
          ∙ sym (sum_first n b (left_floor (suc d)))
          ∙ ap (λ (x : Bound). add (Sum n) (add x (left_floor (suc d)))) (sym (line_floor ∙ is))
          ∙ sym (ap (λ (jobs : List Job). add (Sum n) (total (line_bound hall) (lines_from d jobs) [])) (drop_placed hall.jobs d job at))
          ∙ e

      -- it is no more than a line's estimate can be
      pub floor_low : b ≤ slot_most
      unfolding concat
      floor_low =
          let s = open_slot f.sheet [] tb o 0 0 in
          let g = f.begun.given b is in
          omega (arith, slot_most_lem s g, sum_inj r b (slot_bound s) is (f.begun.floor ∙ slot_bound_lem s g))

-- ---- lines that have begun

-- one line more has
pub begun_more : (jobs : List Job) (lines : List LineTables) (a : Arrays) (d : ℕ) (tb : LineTables) (o : LineRows) → d < length lines → d < length a
    → ((e : ℕ) (job : Job) → e < d → Placed jobs e job → Begun job (tables_in lines e) (rows_at a e)) → ((job : Job) → Placed jobs d job → Begun job tb o)
    → (e : ℕ) (job : Job) → e < d + 1 → Placed jobs e job → Begun job (tables_in (set lines d tb) e) (rows_at (set a d o) e)
begun_more jobs lines a d tb o l m before own e job less at = go (ℕ_discrete e d)
  where
    none : LineTables
    none = record { t = []; u = [] }

    go : Dec (e ≡ d) → Begun job (tables_in (set lines d tb) e) (rows_at (set a d o) e)
    go (yes z) =
        let t = sym (ap (tables_in (set lines d tb)) z ∙ get_or-set_same lines d tb none l) in
        let r = sym (ap (rows_at (set a d o)) z ∙ get_or-set_same a d o no_rows m) in
        subst (λ (x : LineTables). Begun job x (rows_at (set a d o) e)) t (subst (Begun job tb) r (own job (subst (λ (j : ℕ). Placed jobs j job) z at)))
    go (no z) =
        let t = sym (get_or-set_other lines d e tb none z) in
        let r = sym (get_or-set_other a d e o no_rows z) in
        subst (λ (x : LineTables). Begun job x (rows_at (set a d o) e)) t (subst (Begun job (tables_in lines e)) r (before e job (omega (arith, less, z)) at))
