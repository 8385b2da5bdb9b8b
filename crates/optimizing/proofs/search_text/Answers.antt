-- `search_text`: what the search ends in, with the plan that it holds, is printed.
use mathlib.Core.Path.{sym, ap, subst, ◌∙◌}
use Rattle.model.specs.Promise.{PlannerAnswer}
use Rattle.jobs.specs.Views.{job_of}
use Rattle.search.specs.Found.{plan_found}
use Rattle.findings.specs.Finding.{found_answer}
use Rattle.planning.proofs.Findings as findings
use Rattle.optimum_search.specs.Ends.{Ends}
use Rattle.optimizing.proofs.Lengths.{fits}
use Rattle.optimizing.proofs.search_text.Goals as goal
use Rattle.optimizing.proofs.search_text.Goals.{After-finding_of-finding}

-- what is said of what was found
abbrev said : After-finding_of-finding → PlannerAnswer
said c = let j = c.args.text.now.job.job in found_answer (plan_found j.opening_count j.part_count c.search_optimum-found.result) c.finding_of-finding.result

ends : (c : After-finding_of-finding) → Ends (job_of c.args.text.now.job.job) c.args.walk (said c)
ends c = let j = c.args.text.now.job.job in
    let r = c.search_optimum-found.result in
    let n = j.opening_count in
    let m = j.part_count in
    subst (Ends (job_of j) c.args.walk) (sym (ap (found_answer (plan_found n m r)) c.finding_of-finding.ensures ∙ findings.found_said (plan_found n m r) r.count r.floor r.cost r.over)) c.search_optimum-found.ensures

pub answer-requires : goal.answer-requires
answer-requires c = let j = c.args.text.now.job in
    let here = (goal.at.answer-requires c).After-finding_of-finding in
    fits (job_of j.job) j.valid c.args.walk (said here) (ends here)

pub returns : goal.returns
returns c = let here = (goal.at.returns c).After-finding_of-finding in
    (said here, ends here, c.answer.ensures)
