-- E12.6 and E13.1, whole, of what the planner and the call answer.
use mathlib.Core.Path.{◌≡◌, refl, sym, ap, subst, ◌∙◌}
use Prim.Native.Nat.{ℕ, ◌+◌, ◌≤◌}
use native.Mathlib.Omega.{arith}
use Rattle.model.specs.Model.{Job, Plan, cost_of_lem}
use Rattle.model.specs.Windows.{Rising, steps_of}
use Rattle.model.specs.Promise.{BestPlan, optimum, answer_of, PlanFor, Any}
use Rattle.model.proofs.Promised.{promise}
use Rattle.model.proofs.Verdicts.{lives_shaped}
use Rattle.carry.specs.Carry.{Log, Logged, Accepts, carried}
use Rattle.carry.specs.Answer.{CarryAnswer, goes_on, refused, answer_to, carry_number}
use Rattle.carry.specs.Start.{Starts, start_of, Remaining}
use Rattle.carry.specs.Joined.{joined_log}
use Rattle.carry.proofs.Best.{best_accepts, best_rest, rest_printed}
use Rattle.carry.proofs.Begun.{cost_begun}
use Rattle.carry.proofs.Answers.{log_promise, accepted_goes_on}
use Rattle.carry.proofs.Start.{start_logged, start_starts}
use Rattle.carry.proofs.Joined.{joined_logged, joined_accepts, same_job}

-- ---- "If the log is the start of a plan the planner printed with 0, the least cost of the new job is that plan's remaining cost."

module _ (job : Job) (rising : Rising 0 job.horizon (steps_of job.openings)) where
  -- if a log with its true cost starts a best plan, the new job's least cost is the plan's remaining cost
  pub best_remains : (log : Log) → Logged job log → (cost : ℕ) (plan : Plan) → BestPlan job Any cost plan → Starts job log plan → log.cost ≡ cost_of_lem job log.plan → Remaining job log cost plan
  best_remains log l cost plan b s h = record {
    told = accepted_goes_on job log l (best_accepts job log rising l cost plan b s h);
    remains = omega (arith, cost_begun job log plan s rising l, b.states, h);
    best = best_rest job log rising l cost plan b s h;
    printed = rest_printed job log rising l cost plan b s h;
  }

  -- if a log with its true cost starts a printed optimum, the new job's least cost is that plan's remaining cost
  pub printed_remains : (log : Log) → Logged job log → (limit nodes floor cost : ℕ) (plan : Plan) → answer_of job limit ≡ optimum nodes floor cost plan → Starts job log plan
      → log.cost ≡ cost_of_lem job log.plan → Remaining job log cost plan
  printed_remains log l limit nodes floor cost plan e s h =
      best_remains log l cost plan (subst (PlanFor job limit) e (promise job limit).plan_for_lem) s h

  -- and there is such a log for every step that a log may have
  pub start_remains : (step cost : ℕ) (plan : Plan) → 1 ≤ step → step + 2 ≤ job.horizon → BestPlan job Any cost plan → Remaining job (start_of job step plan) cost plan
  start_remains step cost plan one two b =
      let shaped = lives_shaped job plan b.keeps in
      best_remains (start_of job step plan) (start_logged job step plan shaped one two) cost plan b (start_starts job step plan shaped) refl

  -- ---- "If carrying on by a first log and then by a second is accepted both times, carrying on by the joined log shall be accepted and give the identical job text."

  accepts_told : (over : Job) (log : Log) → Logged over log → (next : Job) → answer_to over log ≡ goes_on next → Accepts over log × (next ≡ carried over log)
  accepts_told over log l next e =
      let a = (log_promise over log l).says_0.0 (ap carry_number e) in
      (a, ap (told_job next) (sym e ∙ accepted_goes_on over log l a))
    where
      told_job : Job → CarryAnswer → Job
      told_job d (goes_on j) = j
      told_job d (refused j) = d

  -- carrying on by the joined log answers the job that carrying on by the first and then the second does
  pub one_or_two : (first second : Log) → Logged job first → (next : Job) → answer_to job first ≡ goes_on next → Logged next second → (last : Job) → answer_to next second ≡ goes_on last
      → answer_to job (joined_log job first second) ≡ goes_on last
  one_or_two first second l next e m last f =
      let a = accepts_told job first l next e in
      let again : Logged (carried job first) second = subst (λ (j : Job). Logged j second) a.1 m in
      let b = accepts_told (carried job first) second again last (ap (λ (j : Job). answer_to j second) (sym a.1) ∙ f) in
      accepted_goes_on job (joined_log job first second) (joined_logged job first second rising l again) (joined_accepts job first second rising l again a.0 b.0)
      ∙ ap goes_on (sym (b.1 ∙ same_job job first second rising l again a.0 b.0))
