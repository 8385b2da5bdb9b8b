-- The table of the crew's steps, row by row: a step that is looked at adds a row where some line is open, and with the last it is the hall's.
use Prim.Native.Nat.{ℕ, suc, ◌+◌, ◌≤◌, ◌<◌}
use mathlib.Core.Path.{◌≡◌, sym, ap, ◌∙◌}
use mathlib.Core.Bool.{Bool, true, false, cond}
use mathlib.Core.List.{List, [], ◌∷◌, ◌++◌, append_assoc, append-nil}
use native.Mathlib.Omega.{arith}
use native.Mathlib.Numerals.{add-one}
use borrow.Author.Tests.{lt-ltb, le-ltb}
use lib.Dec.{ltb}
use native.Mathlib.Decide.{ℕ_discrete}
use lib.ListN.{length, get_or, take, set, length-append}
use lib.Seq.{take-suc, take_all, get_or-set_same, get_or-set_other, take-append-le}
use Rattle.model.specs.Model.{Job}
use Rattle.hall_model.specs.Hall.{Hall, Proper, Placed, open_at}
use Rattle.hall_model.specs.Limits.{Fits}
use Rattle.hall_model.specs.Agenda.{some_open, open_steps, crew_steps}
use Rattle.hall_jobs.proofs.Joined.{sum_more}
use Rattle.hall_steps.specs.declared.CrewSteps.{CrewSteps}
use Rattle.hall_steps.specs.Steps.{level_in, open_in}
use Rattle.hall_steps.specs.Table.{step_count, step_at, CrewTable}
use Rattle.hall_steps.proofs.Asked.{drop_line}
use Rattle.model.specs.Limits.{most_openings}
use Rattle.hall_crew.specs.Crew.{opened_at, opened_in, Behind, Rowed}
use Rattle.hall_crew.proofs.Openings.{opened_few, opened_first, opened_all, crew_few}

-- ---- the steps that are left to look at

-- the steps looked at and those that are left, one more looked at
pub steps_on : (jobs : List Job) (done : List ℕ) (x n : ℕ) → done ++ open_steps jobs x (suc n) ≡ (done ++ cond (some_open jobs x) (x ∷ []) []) ++ open_steps jobs (suc x) n
unfolding open_steps
steps_on jobs done x n = go (some_open jobs x)
  where
    rest : List ℕ
    rest = open_steps jobs (suc x) n

    go : (o : Bool) → done ++ cond o (x ∷ rest) rest ≡ (done ++ cond o (x ∷ []) []) ++ rest
    go true = sym (append_assoc done (x ∷ []) rest)
    go false = ap (λ (l : List ℕ). l ++ rest) (sym (append-nil done))

-- where some line is open there, one step more is one of them
pub steps_left : (jobs : List Job) (done : List ℕ) (x n : ℕ) → some_open jobs x ≡ true → length done < length (done ++ open_steps jobs x (suc n))
steps_left jobs done x n e =
    let step = ap (λ (o : Bool). length ((done ++ cond o (x ∷ []) []) ++ open_steps jobs (suc x) n)) e in
    omega (arith, ap length (steps_on jobs done x n), step, length-append (done ++ (x ∷ [])) (open_steps jobs (suc x) n), length-append done (x ∷ []))

-- ---- one row more

-- no line has more openings before the last row than there can be
pub row_levels : (jobs : List Job) (done : List ℕ) (ats : CrewSteps) → Rowed jobs done ats → (d : ℕ) → d < length jobs → level_in ats.before ats.steps d ≤ most_openings
row_levels jobs done ats r d l =
    let j = drop_line jobs d l in
    let e = ap (λ (k : ℕ). level_in ats.before k d) r.count in
    omega (arith, e, r.rows (length done) d j.0 (omega arith) j.1, ap (opened_in j.0) (take_all (length done) done (omega arith)), opened_few j.0 done, r.few)

-- the table with a row behind the others
abbrev pub with_row : CrewSteps → List ℕ → CrewSteps
with_row ats row = record { before = set ats.before (ats.steps + 1) row; steps = ats.steps + 1; lines = ats.lines; call = ats.call }

-- the row behind a step, behind the others
pub row_more : (jobs : List Job) (done : List ℕ) (step : ℕ) (ats : CrewSteps) (row : List ℕ) → Rowed jobs done ats → length done < most_openings → ats.steps + 1 < length ats.before → Behind jobs step (get_or ats.before ats.steps []) row
    → Rowed jobs (done ++ (step ∷ [])) (with_row ats row)
row_more jobs done step ats row r few room b =
    let size = length-append done (step ∷ []) in
    record {
      count = omega (arith, r.count, size);
      few = omega (arith, few, size);
      rows = λ k d job l at. go k d job l at (ℕ_discrete k (ats.steps + 1));
    }
  where
    before' : List (List ℕ)
    before' = set ats.before (ats.steps + 1) row

    go : (k d : ℕ) (job : Job) → k ≤ length (done ++ (step ∷ [])) → Placed jobs d job → Dec (k ≡ ats.steps + 1) → level_in before' k d ≡ opened_in job (take k (done ++ (step ∷ [])))
    go k d job l at (yes z) =
        let all : take (length done) done ≡ done = take_all (length done) done (omega arith) in
        ap (λ (j : ℕ). level_in before' j d) z
        ∙ ap (λ (l : List ℕ). get_or l d 0) (get_or-set_same ats.before (ats.steps + 1) row [] room)
        ∙ b d job at
        ∙ ap (λ (n : ℕ). n + opened_at job step) (ap (λ (j : ℕ). level_in ats.before j d) r.count ∙ r.rows (length done) d job (omega arith) at ∙ ap (opened_in job) all)
        ∙ sym (sum_more (opened_at job) done step)
        ∙ sym (ap (opened_in job) (take_all k (done ++ (step ∷ [])) (omega (arith, z, r.count, length-append done (step ∷ [])))))
    go k d job l at (no z) =
        let m : k ≤ length done = omega (arith, l, z, r.count, length-append done (step ∷ [])) in
        ap (λ (l : List ℕ). get_or l d 0) (get_or-set_other ats.before (ats.steps + 1) k row [] z)
        ∙ r.rows k d job m at
        ∙ ap (opened_in job) (sym (take-append-le k done (step ∷ []) m))

-- ---- the table with all rows

-- the openings at the first k + 1 steps
first_more : (job : Job) (steps : List ℕ) (k : ℕ) → k < length steps → opened_in job (take (k + 1) steps) ≡ opened_in job (take k steps) + opened_at job (get_or steps k 0)
first_more job steps k l = ap (opened_in job) (ap (λ (n : ℕ). take n steps) (add-one k) ∙ take-suc steps k 0 l) ∙ sum_more (opened_at job) (take k steps) (get_or steps k 0)

-- one more exactly where the line is open
says_open : (o : Bool) (n m : ℕ) → m ≡ n + cond o 1 0 → ltb n m ≡ o
says_open true n m e = lt-ltb n m (omega (arith, e))
says_open false n m e = le-ltb n m (omega (arith, e))

module _ (hall : Hall) (proper : Proper hall) (fits : Fits hall) (ats : CrewSteps) (rowed : Rowed hall.jobs (crew_steps hall) ats) where
  next_row : (k d : ℕ) (job : Job) → k < step_count hall → Placed hall.jobs d job → level_in ats.before (k + 1) d ≡ level_in ats.before k d + opened_at job (step_at hall k)
  next_row k d job l at =
      let a = rowed.rows (k + 1) d job (omega (arith, l)) at in
      let b = rowed.rows k d job (omega (arith, l)) at in
      omega (arith, a, b, first_more job (crew_steps hall) k l)

  open_is : (k d : ℕ) (job : Job) → k < step_count hall → Placed hall.jobs d job → open_at job (step_at hall k) ≡ open_in ats.before k d
  open_is k d job l at = sym (says_open (open_at job (step_at hall k)) (level_in ats.before k d) (level_in ats.before (k + 1) d) (next_row k d job l at))

  all_rows : (d : ℕ) (job : Job) → Placed hall.jobs d job → level_in ats.before (step_count hall) d ≡ length job.openings
  all_rows d job at =
      rowed.rows (step_count hall) d job (omega arith) at ∙ ap (opened_in job) (take_all (step_count hall) (crew_steps hall) (omega arith)) ∙ opened_all hall proper d job at

  -- with the last step the table is the hall's
  pub crew_table : ats.lines ≡ length hall.jobs → ats.call ≡ hall.call → CrewTable hall ats
  crew_table lines call = record {
    few = omega (arith, crew_few hall proper, fits.openings);
    steps_are = rowed.count;
    lines_are = lines;
    call_is = call;
    tells = λ k l d job at. open_is k d job l at;
    rises = λ k d l m. let j = drop_line hall.jobs d m in next_row k d j.0 l j.1 ∙ ap (λ (o : Bool). level_in ats.before k d + cond o 1 0) (open_is k d j.0 l j.1);
    within = λ k d job l at. omega (arith, rowed.rows k d job l at, opened_first job k (crew_steps hall), opened_all hall proper d job at);
    begins = λ d l. let j = drop_line hall.jobs d l in rowed.rows 0 d j.0 (omega arith) j.1;
    ends = all_rows;
  }
