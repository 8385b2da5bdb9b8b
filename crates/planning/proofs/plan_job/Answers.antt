-- `plan_job`: what the search found is the model's answer, with the plan that it holds.
use mathlib.Core.Path.{◌≡◌, sym, ap, ◌∙◌, subst}
use Rattle.model.specs.Promise.{PlannerAnswer, answer_of}
use Rattle.jobs.specs.Views.{job_of}
use Rattle.job_text.specs.Views.{given_in}
use Rattle.search.specs.Found.{plan_found}
use Rattle.job_search.proofs.Limits.{answer_ranged}
use Rattle.answers.specs.Said.{Replied}
use Rattle.planning.specs.Plan.{planner_reply, plan_room}
use Rattle.findings.specs.Finding.{found_answer, PrintableAnswer}
use Rattle.planning.proofs.Findings as findings
use Rattle.planning.proofs.plan_job.Goals as goal
use Rattle.planning.proofs.plan_job.Goals.{After-finding_of-finding}

-- what is found is the model's answer, with the plan that the search holds
said : (c : After-finding_of-finding) → let j = c.args.text.now.job.job in
    found_answer (plan_found j.opening_count j.part_count c.search_job-found.result) c.finding_of-finding.result ≡ answer_of (job_of j) c.args.walk
said c = let j = c.args.text.now.job.job in
    let r = c.search_job-found.result in
    ap (found_answer (plan_found j.opening_count j.part_count r)) c.finding_of-finding.ensures ∙ findings.found_said (plan_found j.opening_count j.part_count r) r.count r.floor r.cost r.over ∙ c.search_job-found.ensures

pub answer-requires : goal.answer-requires
answer-requires c = let a = c.args.text.now.job in
    subst PrintableAnswer (sym (said (goal.at.answer-requires c).After-finding_of-finding)) (findings.fits c.args.walk c.requires (answer_of (job_of a.job) c.args.walk) (answer_ranged (job_of a.job) a.valid c.args.walk))

pub returns : goal.returns
returns c = let answer = c.answer in
    subst (λ (x : PlannerAnswer). Replied plan_room (planner_reply (given_in c.args.text.now) x) c.args.out.now answer.new.out answer.result) (said (goal.at.returns c).After-finding_of-finding) answer.ensures
