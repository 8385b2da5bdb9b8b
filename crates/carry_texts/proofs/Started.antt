-- E12.6 over texts: a log text that is the start of a plan the planner printed with 0 is accepted, and the planner's plan for the text that is given is the rest, at the remaining cost. And there is such a log text for every
-- step that a log may have.
use mathlib.Core.Path.{◌≡◌, refl, sym, ap, subst, ◌∙◌}
use mathlib.Core.List.{List}
use Prim.Native.Nat.{ℕ, ◌+◌, ◌-◌, ◌≤◌}
use Rattle.lines.specs.Parser.{accepted}
use Rattle.model.specs.Model.{Job, Plan, cost_of_lem}
use Rattle.model.specs.Promise.{optimum, result_of, answer_of, PlanFor}
use Rattle.model.proofs.Promised.{promise}
use Rattle.model.proofs.Verdicts.{lives_shaped}
use Rattle.jobs.specs.Valid.{ValidJob}
use Rattle.job_grammar.specs.Grammar.{JobText, read_job_text}
use Rattle.job_grammar.specs.Rendering.{job_text_lem}
use Rattle.job_grammar.proofs.Accepted.{valid_text}
use Rattle.carry.specs.Carry.{Log}
use Rattle.carry.specs.Start.{Starts, rest_of, start_of}
use Rattle.carry.proofs.Start.{start_logged, start_starts}
use Rattle.carry.proofs.Best.{best_accepts}
use Rattle.carry.proofs.Printed.{printed_remains}
use Rattle.log_grammar.specs.Grammar.{LogText, log_of, read_log}
use Rattle.log_grammar.specs.Rendering.{log_text_lem, log_says}
use Rattle.job_grammar.specs.Reading.{meant_job}
use Rattle.carry_texts.specs.Carried.{carried_text}
use Rattle.carry_texts.specs.Carries.{Carries}
use Rattle.carry_texts.proofs.Carried.{means_carried}
use Rattle.log_grammar.proofs.Logs.{log_tells, log_back}

module _ (job : List ℕ) (t : JobText) (read : read_job_text job ≡ accepted t) (limit nodes floor cost : ℕ) (plan : Plan) (printed : answer_of (meant_job t) limit ≡ optimum nodes floor cost plan) where
  ok : ValidJob (meant_job t)
  ok = (valid_text job t read).means.job

  module _ (log : List ℕ) (said : LogText) (log_read : read_log (meant_job t) log ≡ accepted said) (starts : Starts (meant_job t) (log_of (meant_job t) said) plan)
      (honest : said.stated.cost ≡ cost_of_lem (meant_job t) (log_of (meant_job t) said).plan) where
    abbrev done : Log
    done = log_of (meant_job t) said

    abbrev next : JobText
    next = carried_text t done

    -- it is accepted
    pub start_carries : Carries job log (job_text_lem next)
    start_carries = record {
      text = t;
      said = said;
      job_read = read;
      log_read = log_read;
      accepts = best_accepts (meant_job t) done ok.rising (log_tells (meant_job t) ok log said log_read).logged cost plan (subst (PlanFor (meant_job t) limit) printed (promise (meant_job t) limit).plan_for_lem) starts honest;
      gives = refl;
    }

    -- and wherever the planner answers 0 to the text that is given, it prints the rest of the plan, at its remaining cost
    pub rest_planned : (walk : ℕ) → result_of (answer_of (meant_job next) walk) ≡ 0
        → (n f : ℕ) × (answer_of (meant_job next) walk ≡ optimum n f (cost - done.cost) (rest_of (meant_job t) done plan))
    rest_planned walk e =
        let means = means_carried t done (valid_text job t read) in
        let r = printed_remains (meant_job t) ok.rising done (log_tells (meant_job t) ok log said log_read).logged limit nodes floor cost plan printed starts honest in
        let p = r.printed walk (ap (λ (j : Job). result_of (answer_of j walk)) (sym means) ∙ e) in
        (p.0, p.1, ap (λ (j : Job). answer_of j walk) means ∙ p.2)

  -- there is such a log for every step from 1 to T − 2
  pub start_read : (step : ℕ) → 1 ≤ step → step + 2 ≤ t.horizon → ((q : Plan) → cost_of_lem (meant_job t) q ≤ 4000000000) → read_log (meant_job t) (log_text_lem (meant_job t) (start_of (meant_job t) step plan)) ≡ accepted (log_says (meant_job t) (start_of (meant_job t) step plan))
  start_read step one two most =
      let best = subst (PlanFor (meant_job t) limit) printed (promise (meant_job t) limit).plan_for_lem in
      let logged = start_logged (meant_job t) step plan (lives_shaped (meant_job t) plan best.keeps) one two in
      log_back (meant_job t) ok (start_of (meant_job t) step plan) logged (most (start_of (meant_job t) step plan).plan)

  -- the log of a printed plan up to a step is the start of that plan
  pub start_starts_it : (step : ℕ) → Starts (meant_job t) (start_of (meant_job t) step plan) plan
  start_starts_it step = start_starts (meant_job t) step plan (lives_shaped (meant_job t) plan (subst (PlanFor (meant_job t) limit) printed (promise (meant_job t) limit).plan_for_lem).keeps)
