-- The second and the third demand in the published terms: what the calls promise of plans that keep the lives, at the theorem that these are the plans of the published model, and their costs its objective.
use Prim.Native.Nat.{ℕ, ◌≤◌}
use mathlib.Core.Path.{◌≡◌, sym, ap, ◌∙◌}
use mathlib.Core.List.{List, ◌++◌}
use mathlib.Core.Logic.{◌↔◌}
use native.Mathlib.Omega.{arith}
use Rattle.model.specs.Model.{Plan, HasPlan}
use Rattle.published.specs.Published.{PublishedRunning, Tied}
use Rattle.model.specs.Promise.{PlannerAnswer, no_plan_lem2, cut_none, cut, optimum, Promise}
use Rattle.job_grammar.specs.Reading.{JobReading, job_in}
use Rattle.delivered.proofs.Published.{text_published_running}
use Rattle.answers.specs.Said.{Said, lent}
use Rattle.judging.specs.Judge.{judge_said, judge_room}
use Rattle.judging.specs.Promise as judging
use Rattle.judging.proofs.Promised as judged
use Rattle.plan_printing.specs.Printed.{low_lines}
use Rattle.planning.specs.Plan.{search_lines, planner_reply, walk_number_lem, plan_said, plan_room}
use Rattle.planning.specs.Promise.{PrintsAnswer, PlanPromise}
use Rattle.planning.proofs.Promised as planned
use Rattle.delivered.specs.Terms.{Meets, StatesObjective, Feasible, Cheapest}
use Rattle.delivered.proofs.Ties.{stops_before, chosen_stops}

-- ---- the judge

module _ (job plan : List ℕ) (room : ℕ) where
  ties : (r : judging.PlanReading job plan) → Tied r.given.job r.stated.plan (Meets r)
  ties r = text_published_running job r.given r.job_read r.stated.plan

  abbrev promise : judging.JudgePromise job plan room (lent judge_room room (judge_said job plan))
  promise = judged.promised job plan room

  -- D5, by the published constraints and objective
  pub judge_accepts : ((lent judge_room room (judge_said job plan)).result ≡ 0) ↔ ((judge_room ≤ room) × ((r : judging.PlanReading job plan) × (Meets r × StatesObjective r)))
  judge_accepts = (
    (λ e. let a = promise.says_0.0 e in let r = a.1.0 in (a.0, (r, ((ties r).keeps.0 a.1.1.0, a.1.1.1 ∙ (ties r).cost)))),
    λ a. let r = a.1.0 in promise.says_0.1 (a.0, (r, ((ties r).keeps.1 a.1.1.0, a.1.1.1 ∙ sym (ties r).cost))),
  )

-- ---- the planner

module _ (text : List ℕ) (walk room : ℕ) where
  tied : (r : JobReading text) (plan : Plan) → Tied (job_in r) plan (PublishedRunning (job_in r) plan)
  tied r plan = text_published_running text r.given r.is plan

  abbrev said : Said
  said = lent plan_room room (plan_said text walk)

  abbrev promises : PlanPromise text walk room said
  promises = planned.promised text walk room

  feasible : (r : JobReading text) → HasPlan (job_in r) ↔ Feasible (job_in r)
  feasible r = ((λ h. (h.0, (tied r h.0).keeps.0 h.1)), λ h. (h.0, (tied r h.0).keeps.1 h.1))

  -- D5, by the published constraints
  pub planner_6 : (said.result ≡ 6) ↔ ((plan_room ≤ room) × ((r : JobReading text) × (Feasible (job_in r) → ⊥)))
  planner_6 = (
    (λ e. let a = promises.says_6.0 e in (a.0, (a.1.0, λ h. a.1.1 ((feasible a.1.0).1 h)))),
    λ a. promises.says_6.1 (a.0, (a.1.0, λ h. a.1.1 ((feasible a.1.0).0 h))),
  )

  -- the plan of an answer 0
  cheapest : (r : JobReading text) (s : Said) (a : PlannerAnswer) → Promise (job_in r) (walk_number_lem walk) a → s ≡ planner_reply r.given a → PrintsAnswer text r.given s a → s.result ≡ 0 → Cheapest r.given s
  cheapest r s no_plan_lem2 p e q z = let w : s.result ≡ 6 = ap (λ (t : Said). t.result) e in absurd (omega (arith, w, z))
  cheapest r s (cut_none n f) p e q z = let w : s.result ≡ 7 = ap (λ (t : Said). t.result) e in absurd (omega (arith, w, z))
  cheapest r s (cut n f c plan) p e q z = let w : s.result ≡ 7 = ap (λ (t : Said). t.result) e in absurd (omega (arith, w, z))
  cheapest r s (optimum n f c plan) p e q z = record {
    nodes = n;
    floor = f;
    cost = c;
    plan = plan;
    lines = q.lines;
    written = q.written ∙ ap (λ (k : ℕ). search_lines k n f ++ (low_lines r.given plan ++ q.lines)) z;
    reads_back = q.reads_back;
    meets = (tied r plan).keeps.0 p.plan_for_lem.keeps;
    states = sym p.plan_for_lem.states ∙ (tied r plan).cost;
    least = λ other h. omega (arith, p.plan_for_lem.least other ((tied r other).keeps.1 h) tt, (tied r other).cost);
    first = λ none other h e. let k = (tied r other).keeps.1 h in stops_before (job_in r) none plan other p.plan_for_lem.keeps.size k.size (p.plan_for_lem.first other k tt ((tied r other).cost ∙ e));
    chosen = λ none. chosen_stops (job_in r) none plan p.plan_for_lem.keeps.size 0 (job_in r).parts plan.changes p.plan_for_lem.within.chosen;
    no_bare = p.plan_for_lem.within.no_bare;
  }

  -- D6, D7, by the published constraints and objective
  pub planner_0 : said.result ≡ 0 → (r : JobReading text) → Cheapest r.given said
  planner_0 e r =
      let room-is = (promises.says_0.0 e).0 in
      let a = promises.answers room-is r in
      cheapest r said a.answer a.promise a.says a.prints e
