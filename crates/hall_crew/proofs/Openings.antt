-- How many openings lines have at some steps: at the crew's steps each has all of its own, and each of these steps has one at least. By recursion over the steps and the lines.
use Prim.Native.Nat.{ℕ, zero, suc, ◌+◌, ◌≤◌}
use mathlib.Core.Path.{◌≡◌, refl, sym, ap, ap₂, ◌∙◌}
use mathlib.Core.Bool.{Bool, true, false, cond, ◌||◌}
use mathlib.Core.List.{List, [], ◌∷◌, map}
use native.Mathlib.Omega.{arith}
use lib.ListN.{length, take}
use Rattle.model.specs.Model.{Job}
use Rattle.model.specs.Decisions.{block_of}
use Rattle.model.proofs.Lists.{table-length}
use Rattle.hall_model.specs.Hall.{Hall, horizon_of, Proper, Placed, open_at, sum_of}
use Rattle.hall_model.specs.Limits.{openings_in}
use Rattle.hall_model.specs.Agenda.{some_open, open_steps, crew_steps}
use Rattle.hall_model.specs.Decisions.{block_at}
use Rattle.hall_model.proofs.Dealt.{Dealt}
use Rattle.hall_model.proofs.Plans.{no_plan_lem, plan_dealt}
use Rattle.hall_crew.specs.Crew.{opened_at, opened_in}

module _ (job : Job) where
  -- no more than there are steps
  pub opened_few : (steps : List ℕ) → opened_in job steps ≤ length steps
  opened_few [] = omega arith
  opened_few (x ∷ steps) = go (open_at job x) (opened_few steps)
    where
      go : (o : Bool) → opened_in job steps ≤ length steps → cond o 1 0 + opened_in job steps ≤ suc (length steps)
      go true r = omega (arith, r)
      go false r = omega (arith, r)

  -- no more at the first k steps
  pub opened_first : (k : ℕ) (steps : List ℕ) → opened_in job (take k steps) ≤ opened_in job steps
  opened_first zero steps = omega arith
  opened_first (suc k) [] = omega arith
  opened_first (suc k) (x ∷ steps) = omega (arith, opened_first k steps)

  -- the same by whether the line is open
  by_open : (steps : List ℕ) → opened_in job steps ≡ sum_of (map (λ (o : Bool). cond o 1 0) (map (open_at job) steps))
  by_open [] = refl
  by_open (x ∷ steps) = ap (λ (n : ℕ). opened_at job x + n) (by_open steps)

-- what is dealt to the steps at which a line is open is as many as those
dealt_count : (os : List Bool) (xs bs : List (List Bool)) → Dealt os xs bs → sum_of (map (λ (o : Bool). cond o 1 0) os) ≡ length bs
dealt_count [] [] bs w = sym (ap length w)
dealt_count [] (x ∷ xs) bs w = absurd w
dealt_count (false ∷ os) [] bs w = absurd w
dealt_count (true ∷ os) [] bs w = absurd w
dealt_count (false ∷ os) (x ∷ xs) bs w = omega (arith, dealt_count os xs bs w.1)
dealt_count (true ∷ os) (x ∷ xs) [] w = absurd w
dealt_count (true ∷ os) (x ∷ xs) (b ∷ bs) w = omega (arith, dealt_count os xs bs w.1)

-- at the crew's steps a line has all of its openings
pub opened_all : (hall : Hall) → Proper hall → (d : ℕ) (job : Job) → Placed hall.jobs d job → opened_in job (crew_steps hall) ≡ length job.openings
opened_all hall proper d job at =
    let steps = crew_steps hall in
    by_open job steps
    ∙ dealt_count (map (open_at job) steps) (map (block_at job no_plan_lem) steps) _ (plan_dealt hall proper d job at no_plan_lem)
    ∙ table-length (block_of job no_plan_lem) (length job.openings)

-- ---- all lines

-- the openings of some lines at some steps
abbrev all_in : List Job → List ℕ → ℕ
all_in jobs steps = sum_of (map (λ (job : Job). opened_in job steps) jobs)

-- a step more takes none away
none_less : (x : ℕ) (steps : List ℕ) (jobs : List Job) → all_in jobs steps ≤ all_in jobs (x ∷ steps)
none_less x steps [] = omega arith
none_less x steps (job ∷ jobs) = omega (arith, none_less x steps jobs)

-- and one at which some line is open adds one
one_more : (x : ℕ) (steps : List ℕ) (jobs : List Job) → some_open jobs x ≡ true → suc (all_in jobs steps) ≤ all_in jobs (x ∷ steps)
one_more x steps [] e = let z : ◌≡◌ {A = ℕ} 0 1 = cc in absurd (omega arith)
one_more x steps (job ∷ jobs) e = go (open_at job x) e (one_more x steps jobs)
  where
    go : (o : Bool) → (o || some_open jobs x) ≡ true → (some_open jobs x ≡ true → suc (all_in jobs steps) ≤ all_in jobs (x ∷ steps))
        → suc (opened_in job steps + all_in jobs steps) ≤ cond o 1 0 + opened_in job steps + all_in jobs (x ∷ steps)
    go true f r = omega (arith, none_less x steps jobs)
    go false f r = omega (arith, r f)

-- so there are no more such steps than openings at them
steps_few : (jobs : List Job) (n from : ℕ) → length (open_steps jobs from n) ≤ all_in jobs (open_steps jobs from n)
unfolding open_steps
steps_few jobs zero from = omega arith
steps_few jobs (suc n) from = go (some_open jobs from) refl (steps_few jobs n (suc from))
  where
    rest : List ℕ
    rest = open_steps jobs (suc from) n

    go : (o : Bool) → some_open jobs from ≡ o → length rest ≤ all_in jobs rest → length (cond o (from ∷ rest) rest) ≤ all_in jobs (cond o (from ∷ rest) rest)
    go true e r = omega (arith, r, one_more from rest jobs e)
    go false e r = r

-- each line has all of its own
all_own : (steps : List ℕ) (jobs : List Job) → ((d : ℕ) (job : Job) → Placed jobs d job → opened_in job steps ≡ length job.openings) → all_in jobs steps ≡ openings_in jobs
all_own steps [] f = refl
all_own steps (job ∷ jobs) f = ap₂ ◌+◌ (f 0 job refl) (all_own steps jobs (λ d x at. f (suc d) x at))

-- the crew has no more steps than the hall has openings
pub crew_few : (hall : Hall) → Proper hall → length (crew_steps hall) ≤ openings_in hall.jobs
crew_few hall proper = omega (arith, steps_few hall.jobs (horizon_of hall.jobs) 1, all_own (crew_steps hall) hall.jobs (opened_all hall proper))
