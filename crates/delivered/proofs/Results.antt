-- The results of each call (`results`). By what its texts read as, and the numbers that their faults can have.
use Prim.Native.Nat.{ℕ, ◌≤◌, ◌<◌}
use mathlib.Core.Path.{◌≡◌, refl, sym, ap, subst}
use mathlib.Core.Bool.{Bool, true, false, cond}
use mathlib.Core.List.{List, []}
use mathlib.Core.Logic.{◌⊎◌, inl, inr}
use native.Mathlib.Omega.{arith}
use native.Mathlib.Decide.{dec_lt}
use lib.Dec.{ltb}
use Rattle.lines.specs.Parser.{Outcome, accepted, refused}
use Rattle.model.specs.Model.{Job, has_holder_lem}
use Rattle.model.specs.Verdict.{Judgement, accepts, unkept, wrong_cost, judged_of}
use Rattle.model.specs.Verdict as judged
use Rattle.model.specs.Promise.{PlannerAnswer, no_plan_lem2, cut_none, cut, optimum, result_of, answer_of, Promise}
use Rattle.model.proofs.Promised.{promise}
use Rattle.hall_model.specs.Hall.{Hall}
use Rattle.hall_model.specs.Promise.{HallAnswer, hall_answer}
use Rattle.latest.specs.Latest.{LatestAnswer, unserved, serves, latest_answer_of}
use Rattle.latest.specs.Latest as late
use Rattle.job_grammar.specs.Grammar.{JobText, Given, read_job_text, meaning, read_job_lem}
use Rattle.job_grammar.specs.Faults.{JobFault}
use Rattle.job_grammar.proofs.Numbered as jobs
use Rattle.plan_grammar.specs.Grammar.{Stated, read_plan_lem}
use Rattle.plan_grammar.specs.Faults.{PlanFault}
use Rattle.plan_grammar.proofs.Numbered as plans
use Rattle.carry.specs.Carry.{Log}
use Rattle.log_grammar.specs.Grammar.{LogText, log_of, read_log}
use Rattle.log_grammar.proofs.Numbered.{log_fault}
use Rattle.hall_grammar.specs.Faults.{HallFault}
use Rattle.hall_grammar.specs.Reading.{read_hall_lem}
use Rattle.job_grammar.specs.Reading.{meant_job}
use Rattle.answers.specs.Said.{Said, plainly, lent}
use Rattle.planning.specs.Plan as planning
use Rattle.planning.specs.Plan.{walk_number_lem, plan_said, plan_room}
use Rattle.judging.specs.Judge as judging
use Rattle.judging.specs.Judge.{judge_said, judge_room}
use Rattle.serving.specs.Serve as serving
use Rattle.serving.specs.Serve.{latest_said, latest_room}
use Rattle.carrying.specs.Carry as carrying
use Rattle.carrying.specs.Carry.{judged_done, said_after, carry_said, carry_room}
use Rattle.hall_planning.specs.Hall.{on_hall, hall_said, hall_room}
use Rattle.hall_planning.proofs.Promised.{fault_of}
use Rattle.answers.specs.Texts.{on_text}
use Rattle.counting.specs.Count as counting
use Rattle.counting.specs.Count.{holder_refusal, count_given, counted_job_lem, count_said}
use Rattle.longest_walk.specs.Count.{open_count}
use Rattle.optimizing.specs.Optimum.{optimum_room}
use Rattle.optimizing.specs.Promise.{OptimumPromise}
use Rattle.delivered.specs.Results.{OfPlanner, OfJudge, OfLatest, OfHall, OfCount, Results}

-- 8, or the answer's own number
lent_result : (P : ℕ → Type 0) (need room : ℕ) (s : Said) → P 8 → P s.result → P (lent need room s).result
lent_result P need room s short own = go (ltb room need)
  where
    go : (b : Bool) → P (cond b (plainly 8 []) s).result
    go true = short
    go false = own

-- ---- the planner

planned : (a : PlannerAnswer) → OfPlanner (result_of a)
planned no_plan_lem2 = inl (omega arith, omega arith)
planned (cut_none n f) = inl (omega arith, omega arith)
planned (cut n f c p) = inl (omega arith, omega arith)
planned (optimum n f c p) = inl (omega arith, omega arith)

planner_job : (n : ℕ) → JobFault n → OfPlanner n
planner_job n (inl k) = inl (omega arith, omega (arith, k.1))
planner_job n (inr k) = inr k

planner : (text : List ℕ) (walk room : ℕ) → OfPlanner (lent plan_room room (plan_said text walk)).result
unfolding plan_said
planner text walk room = lent_result OfPlanner plan_room room (plan_said text walk) (inl (omega arith, omega arith)) (go (read_job_lem text) refl)
  where
    go : (x : Outcome Given) → read_job_lem text ≡ x → OfPlanner (planning.on_job text walk x).result
    go (accepted g) e = planned (answer_of g.job (walk_number_lem walk))
    go (refused n l) e = planner_job n (jobs.fault text n l e).0

-- ---- the judge, and what reads as it does

judge_job : (n : ℕ) → JobFault n → OfJudge n
judge_job n (inl k) = inl (omega arith, k.1)
judge_job n (inr k) = inr (omega (arith, k.0), k.1)

judge_plan : (n : ℕ) → PlanFault n → OfJudge n
judge_plan n (inl k) = inl (omega arith, omega (arith, k.1))
judge_plan n (inr k) = inr (omega (arith, k), omega (arith, k))

weighed : (j : Judgement) → OfJudge (judged.number_of j)
weighed (accepts c) = inl (omega arith, omega arith)
weighed (unkept p d) = inr (omega arith, omega arith)
weighed (wrong_cost c) = inr (omega arith, omega arith)

judge : (job plan : List ℕ) (room : ℕ) → OfJudge (lent judge_room room (judge_said job plan)).result
unfolding judge_said
judge job plan room = lent_result OfJudge judge_room room (judge_said job plan) (inr (omega arith, omega arith)) (go (read_job_lem job) refl)
  where
    behind : (g : Given) (x : Outcome Stated) → read_plan_lem g.job plan ≡ x → OfJudge (judging.on_plan plan g.job x).result
    behind g (accepted stated) e = weighed (judged_of g.job stated.cost stated.plan)
    behind g (refused n l) e = judge_plan n (plans.fault g.job plan n l e).0

    go : (x : Outcome Given) → read_job_lem job ≡ x → OfJudge (judging.on_job job plan x).result
    go (accepted g) e = behind g (read_plan_lem g.job plan) refl
    go (refused n l) e = judge_job n (jobs.fault job n l e).0

-- ---- the latest-time habit

late_job : (n : ℕ) → JobFault n → OfLatest n
late_job n (inl k) = inl (omega arith, omega (arith, k.1))
late_job n (inr k) = inr (inr k)

late_plan : (n : ℕ) → PlanFault n → OfLatest n
late_plan n (inl k) = inl (omega arith, omega (arith, k.1))
late_plan n (inr k) = inr (inl (omega (arith, k), omega (arith, k)))

served : (a : LatestAnswer) → OfLatest (late.latest_number a)
served unserved = inl (omega arith, omega arith)
served (serves c p) = inl (omega arith, omega arith)

latest : (job plan : List ℕ) (room : ℕ) → OfLatest (lent latest_room room (latest_said job plan)).result
unfolding latest_said
latest job plan room = lent_result OfLatest latest_room room (latest_said job plan) (inr (inl (omega arith, omega arith))) (go (read_job_lem job) refl)
  where
    behind : (g : Given) (x : Outcome Stated) → read_plan_lem g.job plan ≡ x → OfLatest (serving.on_plan plan g x).result
    behind g (accepted stated) e = served (latest_answer_of g.job stated.plan.stops)
    behind g (refused n l) e = late_plan n (plans.fault g.job plan n l e).0

    go : (x : Outcome Given) → read_job_lem job ≡ x → OfLatest (serving.on_job job plan x).result
    go (accepted g) e = behind g (read_plan_lem g.job plan) refl
    go (refused n l) e = late_job n (jobs.fault job n l e).0

-- ---- carrying on

carried : (t : JobText) (log : Log) (j : Judgement) → OfJudge (said_after t log j).result
carried t log (accepts c) = inl (omega arith, omega arith)
carried t log (unkept p d) = inr (omega arith, omega arith)
carried t log (wrong_cost c) = inr (omega arith, omega arith)

carry : (job log : List ℕ) (room : ℕ) → OfJudge (lent carry_room room (carry_said job log)).result
unfolding carry_said
carry job log room = lent_result OfJudge carry_room room (carry_said job log) (inr (omega arith, omega arith)) (go (read_job_text job) refl)
  where
    behind : (t : JobText) (x : Outcome LogText) → read_log (meant_job t) log ≡ x → OfJudge (carrying.on_log log t x).result
    behind t (accepted said) e = let done = log_of (meant_job t) said in carried t done (judged_done t done)
    behind t (refused n l) e = judge_plan n (log_fault (meant_job t) log n l e).0

    go : (x : Outcome JobText) → read_job_text job ≡ x → OfJudge (carrying.on_job job log x).result
    go (accepted t) e = behind t (read_log (meant_job t) log) refl
    go (refused n l) e = judge_job n (jobs.fault job n l (ap meaning e)).0

-- ---- a hall

hall_planned : (a : HallAnswer) → OfHall (result_of a)
hall_planned no_plan_lem2 = inl (omega arith, omega arith)
hall_planned (cut_none n f) = inl (omega arith, omega arith)
hall_planned (cut n f c p) = inl (omega arith, omega arith)
hall_planned (optimum n f c p) = inl (omega arith, omega arith)

hall_text : (n : ℕ) → HallFault n → OfHall n
hall_text n (inl (inl k)) = inl (omega arith, omega (arith, k.1))
hall_text n (inl (inr k)) = inr (k.0, omega (arith, k.1))
hall_text n (inr k) = inr (omega (arith, k), omega (arith, k))

hall : (text : List ℕ) (walk room : ℕ) → OfHall (lent hall_room room (hall_said text walk)).result
unfolding hall_said
hall text walk room = lent_result OfHall hall_room room (hall_said text walk) (inl (omega arith, omega arith)) (go (read_hall_lem text) refl)
  where
    go : (x : Outcome Hall) → read_hall_lem text ≡ x → OfHall (on_text 1 text (on_hall walk) x).result
    go (accepted h) e = hall_planned (hall_answer h (walk_number_lem walk))
    go (refused n l) e = hall_text n (fault_of text n l e).0

-- ---- the count

count_job : (n : ℕ) → JobFault n → OfCount n
count_job n (inl k) = inl (omega arith, k.1)
count_job n (inr k) = inr k

count : (text : List ℕ) → OfCount (count_said text).result
unfolding count_said counted_job_lem
count text = go (read_job_lem text) refl
  where
    counted : (job : Job) (b : Bool) → OfCount (cond b holder_refusal (count_given (open_count job))).result
    counted job true = inr (omega arith, omega arith)
    counted job false = inl (omega arith, omega arith)

    go : (x : Outcome Given) → read_job_lem text ≡ x → OfCount (counting.on_job text x).result
    go (accepted g) e = counted g.job (has_holder_lem g.job)
    go (refused n l) e = count_job n (jobs.fault text n l e).0

-- ---- the optimum

optimum_result : (text : List ℕ) (walk room : ℕ) (s : Said) → OptimumPromise text walk room s → OfPlanner s.result
optimum_result text walk room s p = short (dec_lt room optimum_room)
  where
    is : (n : ℕ) → OfPlanner n → s.result ≡ n → OfPlanner s.result
    is n h e = subst OfPlanner (sym e) h

    either : (s.result ≡ 0) ⊎ (s.result ≡ 7) → OfPlanner s.result
    either (inl e) = is 0 (inl (omega arith, omega arith)) e
    either (inr e) = is 7 (inl (omega arith, omega arith)) e

    planned_at : optimum_room ≤ room → (g : Given) → read_job_lem text ≡ accepted g → (a : PlannerAnswer) → Promise g.job 0 a → OfPlanner s.result
    planned_at h g e no_plan_lem2 q = is 6 (inl (omega arith, omega arith)) (p.says_6.1 (h, (record { given = g; is = e }, q.says_6.0 refl)))
    planned_at h g e (cut_none n f) q = either (p.says_0_or_7.1 (h, (record { given = g; is = e }, (q.says_7.0 refl).0)))
    planned_at h g e (cut n f c plan) q = either (p.says_0_or_7.1 (h, (record { given = g; is = e }, (q.says_7.0 refl).0)))
    planned_at h g e (optimum n f c plan) q = either (p.says_0_or_7.1 (h, (record { given = g; is = e }, (q.says_0.0 refl).0)))

    read : optimum_room ≤ room → (x : Outcome Given) → read_job_lem text ≡ x → OfPlanner s.result
    read h (accepted g) e = planned_at h g e (answer_of g.job 0) (promise g.job 0)
    read h (refused n l) e = is n (planner_job n (jobs.fault text n l e).0) (p.job_fault h n l e).result

    short : Dec (room < optimum_room) → OfPlanner s.result
    short (yes h) = is 8 (inl (omega arith, omega arith)) (p.says_8.1 h)
    short (no h) = read (omega (arith, h)) (read_job_lem text) refl

-- all of them
pub results : Results
results = record { planner = planner; judge = judge; latest = latest; carry = carry; hall = hall; count = count; optimum = optimum_result }
