-- `plan_hall`: what the search found is the model's answer, with the plans that it holds.
use mathlib.Core.Path.{◌≡◌, sym, ap, ◌∙◌, subst}
use Rattle.hall_model.specs.Promise.{HallAnswer, hall_answer}
use Rattle.hall_jobs.specs.Views.{hall_of}
use Rattle.hall_search.specs.Found.{plans_found}
use Rattle.answers.specs.Said.{Replied}
use Rattle.findings.specs.Finding.{found_answer, PrintableAnswer}
use Rattle.planning.proofs.Findings.{found_said}
use Rattle.hall_printing.specs.Lines.{hall_reply}
use Rattle.hall_planning.specs.Hall.{hall_room}
use Rattle.hall_planning.proofs.Ranges.{answer_ranged, lines_valid}
use Rattle.hall_planning.proofs.plan_hall.Goals as goal
use Rattle.hall_planning.proofs.plan_hall.Goals.{After-finding_of-finding}

-- what is found is the model's answer, with the plans that the search holds
said : (c : After-finding_of-finding) → found_answer (plans_found c.args.hall.now c.search_hall-found.result) c.finding_of-finding.result ≡ hall_answer (hall_of c.args.hall.now) c.args.walk
said c = let h = c.args.hall.now in
    let r = c.search_hall-found.result in
    ap (found_answer (plans_found h r)) c.finding_of-finding.ensures ∙ found_said (plans_found h r) r.count r.floor r.cost r.over ∙ c.search_hall-found.ensures

pub answer_hall-requires : goal.answer_hall-requires
answer_hall-requires c = let h = c.args.hall.now in
    subst PrintableAnswer (sym (said (goal.at.answer_hall-requires c).After-finding_of-finding)) (answer_ranged (hall_of h) h.proper h.fits (lines_valid h) c.args.walk c.requires)

pub returns : goal.returns
returns c = subst (λ (x : HallAnswer). Replied hall_room (hall_reply (hall_of c.args.hall.now) x) c.args.out.now c.answer_hall.new.out c.answer_hall.result) (said (goal.at.returns c).After-finding_of-finding) c.answer_hall.ensures
