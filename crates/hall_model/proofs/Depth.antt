-- How deep the walk goes: for each opening of each line at most a call, a stop and a removal for each part that is somebody's holder. So a hall that the text takes has at most 64 · (2 + 16) decisions.
use mathlib.Core.Path.{◌≡◌, refl, sym, ap, ◌∙◌}
use mathlib.Core.Bool.{Bool, true, false, cond, ◌||◌}
use mathlib.Core.List.{List, [], ◌∷◌, map}
use Prim.Native.Nat.{ℕ, zero, suc, ◌+◌, ◌*◌, ◌≤◌}
use native.Mathlib.Omega.{arith}
use lib.ListN.{length}
use Rattle.branch.specs.Questions.{Answers, Full}
use Rattle.model.specs.Model.{Opening, Job, holding, select}
use Rattle.model.specs.Decisions.{block_of, plan_blocks}
use Rattle.model.specs.LowerBound.{inner}
use Rattle.model.proofs.Lists.{table-length}
use Rattle.hall_model.specs.Hall.{Hall, horizon_of, Proper, Placed, open_at, sum_of}
use Rattle.hall_model.specs.Limits.{Fits}
use Rattle.hall_model.specs.Agenda.{line, Agenda, over, raise, plain, removals, lines_asked, steps_asked, some_open, open_steps, crew_steps, agenda_of}
use Rattle.hall_model.specs.Decisions.{block_at}
use Rattle.hall_model.proofs.Bounded.{FullNode}
use Rattle.hall_model.proofs.Dealt.{Dealt}
use Rattle.hall_model.proofs.Plans.{no_plan_lem, plan_dealt}

-- the questions on the longest way down an agenda
unfoldable pub depth : Agenda → ℕ
depth over = 0
depth (raise t inner next) = suc (depth inner + depth next)

then_length : (a : Agenda) (P : List Bool → Type 0) (k : ℕ) → ((r : List Bool) → P r → length r ≤ k) → (s : List Bool) → Answers (plain a) P s → length s ≤ depth a + k
unfolding depth
then_length over P k f s w = omega (arith, f s w)
then_length (raise t inner next) P k f [] w = absurd w
then_length (raise t inner next) P k f (false ∷ s) w = omega (arith, then_length next P k f s w)
then_length (raise t inner next) P k f (true ∷ s) w =
    omega (arith, then_length inner (Answers (plain next) P) (depth next + k) (λ r v. then_length next P k f r v) s w)

-- no full node's name is longer
pub name_length_lem : (a : Agenda) (s : List Bool) → Full (plain a) s → length s ≤ depth a
name_length_lem a s full = omega (arith, then_length a (λ (r : List Bool). r ≡ []) 0 (λ r e. omega (arith, ap length e)) s full)

-- ---- sums

sum_plus : {A : Type 0} (f g : A → ℕ) (xs : List A) → sum_of (map (λ x. f x + g x) xs) ≡ sum_of (map f xs) + sum_of (map g xs)
sum_plus f g [] = refl
sum_plus f g (x ∷ xs) = omega (arith, sum_plus f g xs)

sum_none : {A : Type 0} (xs : List A) → sum_of (map (λ x. 0) xs) ≡ 0
sum_none [] = refl
sum_none (x ∷ xs) = omega (arith, sum_none xs)

sum_same : {A B : Type 0} (k : ℕ) (xs : List A) (ys : List B) → length xs ≡ length ys → sum_of (map (λ x. k) xs) ≡ sum_of (map (λ y. k) ys)
sum_same k [] [] h = refl
sum_same k [] (y ∷ ys) h = absurd (omega arith)
sum_same k (x ∷ xs) [] h = absurd (omega arith)
sum_same k (x ∷ xs) (y ∷ ys) h = ap (λ (n : ℕ). k + n) (sum_same k xs ys (omega arith))

-- k for each step at which a line is open is k for each of its blocks
dealt_sum : (k : ℕ) (f : ℕ → Bool) (steps : List ℕ) (xs bs : List (List Bool)) → Dealt (map f steps) xs bs → sum_of (map (λ (x : ℕ). cond (f x) k 0) steps) ≡ sum_of (map (λ (b : List Bool). k) bs)
dealt_sum k f [] [] bs w = ap (λ (l : List (List Bool)). sum_of (map (λ (b : List Bool). k) l)) (sym w)
dealt_sum k f [] (x ∷ xs) bs w = absurd w
dealt_sum k f (step ∷ steps) [] bs w = go (f step) w
  where
    go : (o : Bool) → Dealt (o ∷ map f steps) [] bs → cond (f step) k 0 + sum_of (map (λ (x : ℕ). cond (f x) k 0) steps) ≡ sum_of (map (λ (b : List Bool). k) bs)
    go true v = absurd v
    go false v = absurd v
dealt_sum k f (step ∷ steps) (x ∷ xs) bs w = go (f step) bs w (λ cs v. dealt_sum k f steps xs cs v)
  where
    go : (o : Bool) (bs : List (List Bool)) → Dealt (o ∷ map f steps) (x ∷ xs) bs
        → ((cs : List (List Bool)) → Dealt (map f steps) xs cs → sum_of (map (λ (x : ℕ). cond (f x) k 0) steps) ≡ sum_of (map (λ (b : List Bool). k) cs))
        → cond o k 0 + sum_of (map (λ (x : ℕ). cond (f x) k 0) steps) ≡ sum_of (map (λ (b : List Bool). k) bs)
    go true [] v rec = absurd v
    go true (b ∷ bs) v rec = ap (λ (n : ℕ). k + n) (rec bs v.1)
    go false bs v rec = omega (arith, rec bs v.1)

-- ---- one step

-- what a line may decide at a step, its call with it
abbrev share : ℕ → Job → ℕ
share x job = cond (open_at job x) (2 + inner job) 0

removals-depth : (j h : ℕ) → depth (removals j h) ≡ h
unfolding depth removals
removals-depth j zero = refl
removals-depth j (suc h) = ap suc (omega (arith, removals-depth j h))

lines_depth : (x j : ℕ) (jobs : List Job) → depth (lines_asked x j jobs) + cond (some_open jobs x) 1 0 ≤ sum_of (map (share x) jobs)
unfolding depth lines_asked
lines_depth x j [] = omega arith
lines_depth x j (job ∷ jobs) = go (open_at job x) (some_open jobs x) (lines_depth x (suc j) jobs)
  where
    rest : Agenda
    rest = lines_asked x (suc j) jobs

    go : (o s : Bool) → depth rest + cond s 1 0 ≤ sum_of (map (share x) jobs)
        → depth (cond o (raise (line j) (removals j (inner job)) rest) rest) + cond (o || s) 1 0 ≤ cond o (2 + inner job) 0 + sum_of (map (share x) jobs)
    go true true l = omega (arith, removals-depth j (inner job))
    go true false l = omega (arith, removals-depth j (inner job))
    go false s l = omega arith

-- ---- all steps

steps-depth : (jobs : List Job) (n from : ℕ) → let steps = open_steps jobs from n in depth (steps_asked jobs steps) ≤ sum_of (map (λ (x : ℕ). sum_of (map (share x) jobs)) steps)
unfolding depth steps_asked open_steps
steps-depth jobs zero from = omega arith
steps-depth jobs (suc n) from = go (some_open jobs from) (lines_depth from 0 jobs) (steps-depth jobs n (suc from))
  where
    left : List ℕ
    left = open_steps jobs (suc from) n

    go : (o : Bool) → depth (lines_asked from 0 jobs) + cond o 1 0 ≤ sum_of (map (share from) jobs) → depth (steps_asked jobs left) ≤ sum_of (map (λ (x : ℕ). sum_of (map (share x) jobs)) left)
        → depth (steps_asked jobs (cond o (from ∷ left) left)) ≤ sum_of (map (λ (x : ℕ). sum_of (map (share x) jobs)) (cond o (from ∷ left) left))
    go true l m = omega arith
    go false l m = m

-- line by line
by_lines : (steps : List ℕ) (jobs : List Job) → sum_of (map (λ (x : ℕ). sum_of (map (share x) jobs)) steps) ≡ sum_of (map (λ (job : Job). sum_of (map (λ (x : ℕ). share x job) steps)) jobs)
by_lines steps [] = sum_none steps
by_lines steps (job ∷ jobs) =
    sum_plus (λ (x : ℕ). share x job) (λ (x : ℕ). sum_of (map (share x) jobs)) steps ∙ ap (λ (n : ℕ). sum_of (map (λ (x : ℕ). share x job) steps) + n) (by_lines steps jobs)

-- no more are selected than there are
select_most : {A : Type 0} (xs : List A) (cs : List Bool) → length (select xs cs) ≤ length xs
unfolding select
select_most [] cs = omega arith
select_most (x ∷ xs) [] = omega arith
select_most (x ∷ xs) (false ∷ cs) = omega (arith, select_most xs cs)
select_most (x ∷ xs) (true ∷ cs) = omega (arith, select_most xs cs)

-- 18 or fewer for each opening
openings_most : (os : List Opening) (k : ℕ) → k ≤ 18 → sum_of (map (λ (o : Opening). k) os) ≤ length os * 18
openings_most [] k h = omega arith
openings_most (o ∷ os) k h = omega (arith, openings_most os k h)

-- a call, a stop and the removals for each opening
abbrev pub depth_of : Job → ℕ
depth_of job = sum_of (map (λ (o : Opening). 2 + inner job) job.openings)

module _ (hall : Hall) (proper : Proper hall) where
  line_depth : (d : ℕ) (job : Job) → Placed hall.jobs d job → sum_of (map (λ (x : ℕ). share x job) (crew_steps hall)) ≡ depth_of job
  line_depth d job at =
      dealt_sum (2 + inner job) (open_at job) (crew_steps hall) (map (block_at job no_plan_lem) (crew_steps hall)) (plan_blocks job no_plan_lem) (plan_dealt hall proper d job at no_plan_lem)
      ∙ sum_same (2 + inner job) (plan_blocks job no_plan_lem) job.openings (table-length (block_of job no_plan_lem) (length job.openings))

  all_depths : (js : List Job) → ((d : ℕ) (job : Job) → Placed js d job → sum_of (map (λ (x : ℕ). share x job) (crew_steps hall)) ≡ depth_of job)
      → sum_of (map (λ (job : Job). sum_of (map (λ (x : ℕ). share x job) (crew_steps hall))) js) ≡ sum_of (map depth_of js)
  all_depths [] f = refl
  all_depths (job ∷ js) f = λ i. f 0 job refl i + all_depths js (λ d x at. f (suc d) x at) i

  -- the hall's agenda is at most as deep as its lines' openings, each with a call, a stop and the removals
  pub hall-depth : depth (agenda_of hall) ≤ sum_of (map depth_of hall.jobs)
  hall-depth = omega (arith, steps-depth hall.jobs (horizon_of hall.jobs) 1, by_lines (crew_steps hall) hall.jobs, all_depths hall.jobs line_depth)

  -- a full node's name has at most a call, a stop and the removals for each opening of each line
  pub decisions_most : (s : List Bool) → FullNode hall s → length s ≤ sum_of (map depth_of hall.jobs)
  decisions_most s full = omega (arith, name_length_lem (agenda_of hall) s full, hall-depth)

  -- ---- in numbers: no line has more parts that are somebody's holder than the hall has parts

  lines_most : (js : List Job) → sum_of (map (λ (job : Job). length job.parts) js) ≤ 16 → sum_of (map depth_of js) ≤ sum_of (map (λ (job : Job). length job.openings) js) * 18
  lines_most [] h = omega arith
  lines_most (job ∷ js) h = omega (arith, openings_most job.openings (2 + inner job) (omega (arith, select_most job.parts (holding job))), lines_most js (omega arith))

  -- 64 · (2 + 16)
  pub most_decisions : Fits hall → (s : List Bool) → FullNode hall s → length s ≤ 1152
  most_decisions fits s full = omega (arith, decisions_most s full, lines_most hall.jobs fits.parts, fits.openings)
