-- What the code hands back is the model's answer: at an incumbent each line is at a full node of its own, whose plan is the line's.
use Prim.Native.Nat.{ℕ, suc, ◌+◌, ◌≤◌, ◌<◌}
use mathlib.Core.Path.{◌≡◌, refl, sym, ap, subst, ◌∙◌}
use mathlib.Core.Bool.{Bool}
use mathlib.Core.List.{List, [], ◌∷◌, map}
use Rattle.std.specs.Prelude.{Some}
use native.Mathlib.Omega.{arith}
use lib.ListN.{length, get_or, take}
use lib.Seq.{get_or-take, length-take-le}
use Rattle.branch.specs.declared.Bound.{Bound}
use Rattle.branch.specs.Search.{Limited}
use Rattle.branch.specs.Planning.{answered_at}
use Rattle.branch.proofs.Among.{limited_best}
use Rattle.model.specs.Model.{Job}
use Rattle.model.specs.LowerBound.{stops_at, plan_at}
use Rattle.model.proofs.Bounded.{stops-length}
use Rattle.jobs.specs.declared.Plan as code
use Rattle.jobs.specs.declared.accepted.Accepted.{Accepted}
use Rattle.jobs.specs.Views.{plan_for}
use Rattle.search_state.proofs.Answers.{answer_named}
use Rattle.search_state.specs.declared.Solved.{Solved}
use Rattle.search_state.specs.State.{found_as}
use Rattle.held_search.specs.Solved.{limited_by}
use Rattle.hall_model.specs.Hall.{Hall}
use Rattle.hall_model.specs.Agenda.{lines_from, name_for}
use Rattle.hall_model.specs.LowerBound.{line_plan, hall_plan_at}
use Rattle.hall_model.specs.Promise.{hall_tree, hall_answer}
use Rattle.hall_model.proofs.Bounded.{FullNode, node_full}
use Rattle.hall_model.proofs.Nodes.{line_node}
use Rattle.hall_nodes.proofs.Root.{answer_is}
use Rattle.hall_state.specs.Courses.{Arrays}
use Rattle.hall_jobs.specs.declared.HallJobs.{HallJobs}
use Rattle.hall_jobs.specs.Hall.{line_of_lem}
use Rattle.hall_jobs.specs.Views.{hall_of}
use Rattle.hall_jobs.proofs.Lines.{line_there}
use Rattle.hall_search.specs.declared.found.HallFound.{HallFound}
use Rattle.hall_search.specs.Walked.{HallSearched}
use Rattle.hall_search.specs.Plans.{PlansOf}
use Rattle.hall_search.specs.Found.{hall_found_by, each_plan, plans_found, hall_said_in}

-- plans of jobs, one after the other, are the lines' plans where each is
plans_same : (hall : Hall) (s : List Bool) (j : ℕ) (jobs : List Accepted) (ps : List code.Plan) → length jobs ≤ length ps
    → ((d : ℕ) (a : Accepted) (p : code.Plan) → d < length jobs → plan_for (get_or jobs d a).job (get_or ps d p) ≡ line_plan hall s (record { place = j + d; job = line_of_lem (get_or jobs d a) }))
    → each_plan jobs ps ≡ map (line_plan hall s) (lines_from j (map line_of_lem jobs))
unfolding lines_from
plans_same hall s j [] ps l f = refl
plans_same hall s j (a ∷ jobs) [] l f = absurd (omega (arith, l))
plans_same hall s j (a ∷ jobs) (p ∷ ps) l f =
    let z : j + 0 ≡ j = omega arith in
    let first = f 0 a p (omega arith) ∙ ap (λ (k : ℕ). line_plan hall s (record { place = k; job = line_of_lem a })) z in
    let rest = plans_same hall s (suc j) jobs ps (omega (arith, l)) (λ d b q m. let y : j + suc d ≡ suc j + d = omega arith in f (suc d) b q (omega (arith, m)) ∙ ap (λ (k : ℕ). line_plan hall s (record { place = k; job = line_of_lem (get_or jobs d b) })) y) in
    λ i. first i ∷ rest i

module _ (h : HallJobs) (limit : ℕ) (rows : Arrays) (masks : List ℕ) (s : Solved) (se : HallSearched (hall_of h) limit rows masks s) (ps : List code.Plan) (pl : PlansOf h rows masks ps) where
  abbrev hall : Hall
  hall = hall_of h

  abbrev r : HallFound
  r = hall_found_by s ps

  abbrev name : ℕ → Job → List Bool
  name d job = name_for hall (record { place = d; job = job }) se.found

  -- an incumbent is a full node of the hall
  full : (c : ℕ) → s.cost ≡ Some c → FullNode hall se.found
  full c e = node_full hall se.found c ((limited_best (hall_tree hall) limit).costs c se.found (sym (ap (λ (l : Limited). l.incumbent) se.walked) ∙ ap (found_as se.found) e))

  -- and each line's plan is that of its own node there
  plan_is : (c : ℕ) → s.cost ≡ Some c → (d : ℕ) (a : Accepted) (p : code.Plan) → d < h.count → plan_for (get_or h.jobs d a).job (get_or ps d p) ≡ plan_at (line_of_lem (get_or h.jobs d a)) (name d (line_of_lem (get_or h.jobs d a)))
  plan_is c e d a p l =
      let job = line_of_lem (get_or h.jobs d a) in
      let at = line_there h d a l in
      let own = se.names c e d job at in
      let size = stops-length job (name d job) (line_node hall h.proper se.found (full c e) d job at).line_full in
      pl.each d a p l (ap (λ (n : List Bool). length (stops_at job n)) (sym own) ∙ size) ∙ ap (plan_at job) (sym own)

  plans_are : (c : ℕ) → s.cost ≡ Some c → plans_found h r ≡ hall_plan_at hall se.found
  plans_are c e =
      let size = length-take-le h.count h.jobs (omega (arith, h.few, h.long)) in
      plans_same hall se.found 0 (take h.count h.jobs) ps (omega (arith, size, h.few, pl.size))
      (λ d a p l.
      let m : d < h.count = omega (arith, l, size) in
      let z : d ≡ 0 + d = omega arith in
      let t = get_or-take h.count h.jobs d a m in
      subst (λ (b : Accepted). plan_for b.job (get_or ps d p) ≡ line_plan hall se.found (record { place = 0 + d; job = line_of_lem b })) (sym t)
      (plan_is c e d a p m ∙ ap (λ (k : ℕ). line_plan hall se.found (record { place = k; job = line_of_lem (get_or h.jobs d a) })) z))

  -- what the code hands back says the model's answer for the hall and the limit
  pub said : hall_said_in h r ≡ hall_answer hall limit
  said =
      answer_named (hall_plan_at hall) se.found (plans_found h r) s.count s.over s.cost plans_are s.floor
      ∙ ap (λ (b : Bound). answered_at (hall_plan_at hall) b (limited_by se.found s)) se.floor
      ∙ answer_is hall limit (limited_by se.found s) se.walked
