-- The lines of a hall's answer fit the room, 16,384 bytes: 68 before the lines' plans, and of each line 25 and 146 for each of its openings, 64 in the hall. By the digits that a number can have.
use Prim.Native.Nat.{ℕ, ◌+◌, ◌*◌, ◌≤◌, ◌<◌}
use mathlib.Core.Path.{◌≡◌, refl, ap}
use mathlib.Core.Bool.{Bool, true, false, cond}
use mathlib.Core.List.{List, [], ◌∷◌, ◌++◌, map}
use native.Mathlib.Omega.{arith}
use lib.ListN.{length, get_or, take, length-append, length-map, length-take}
use lib.Seq.{length-take-le}
use Rattle.lines.specs.Text.{bytes, line_of, texts}
use Rattle.base.specs.Chosen.{chosen}
use Rattle.base.proofs.Chosen.{chosen_few}
use Rattle.lines.proofs.Texts.{chosen-texts}
use Rattle.lines.proofs.Writing.{line_most, line_short}
use Rattle.base.proofs.Joined.{joined_short}
use Rattle.model.specs.Limits.{answer_room}
use Rattle.model.specs.Model.{cost_of_lem}
use Rattle.model.specs.Model as model
use Rattle.jobs.specs.Views.{job_of, plan_for}
use Rattle.jobs.specs.declared.Changes.{Changes}
use Rattle.jobs.specs.declared.Plan.{Plan}
use Rattle.jobs.specs.declared.accepted.Accepted.{Accepted}
use Rattle.plan_grammar.specs.Rendering.{visit_text, plan_text_lem, is_changed_lem, parts_at, step_at, visit_at, visits_of, plan_lines_of}
use Rattle.plan_grammar.proofs.Steps.{step_small}
use Rattle.plan_costs.proofs.Dearest.{cost_most}
use Rattle.hall_model.specs.Limits.{openings_in}
use Rattle.hall_jobs.specs.Hall.{line_of_lem}
use Rattle.hall_jobs.specs.Views.{hall_of}
use Rattle.hall_jobs.specs.declared.HallJobs.{HallJobs}
use Rattle.findings.specs.Finding.{found_answer}
use Rattle.findings.specs.declared.Finding.{Finding}
use Rattle.findings.specs.declared.Finding.TheVariants.{NoPlan, Optimum, Cut, CutBare}
use Rattle.planning.proofs.Lengths.{search_short}
use Rattle.hall_printing.specs.Lines.{own_lines, plans_lines, hall_planned_lines, hall_lines}
use Rattle.hall_search.specs.Found.{plans_held}
use Rattle.hall_printing.specs.Finding.{line_held}
use Rattle.hall_printing.proofs.Held.{held}

-- ---- one line

cond_less : (b : Bool) (xs : List ℕ) → length (cond b xs []) ≤ length xs
cond_less true xs = omega arith
cond_less false xs = omega arith

-- the texts of some of n, each of at most k bytes
chosen_short : {A : Type 0} (w : A → List ℕ) (test : ℕ → Bool) (f : ℕ → A) (n k : ℕ) → ((i : ℕ) → i < n → length (w (f i)) ≤ k) → length (texts w (chosen test f n)) ≤ n * k
chosen_short w test f n k h =
    omega (arith, ap length (chosen-texts w test f n), joined_short (λ i. cond (test i) (w (f i)) []) k n (λ i l. omega (arith, h i l, cond_less (test i) (w (f i)))))

key_length : (length (bytes "cost=") ≡ 5) × (length (bytes "stops=") ≡ 6) × (length (bytes "stop=") ≡ 5) × (length (bytes "count=") ≡ 6) × (length (bytes "part=") ≡ 5)
unfolding bytes
key_length = (refl, refl, refl, refl, refl)

-- a stop's lines: stop=365, count=16 and sixteen parts
visit_short : (job : model.Job) (plan : model.Plan) (i : ℕ) → step_at job i < 1000 → length plan.changes ≤ 16 → length (visit_text (visit_at job plan i)) ≤ 146
unfolding visit_text
visit_short job plan i h m =
    let parts = chosen_short (line_of "part=") (is_changed_lem plan i) (λ k. k + 1) (length plan.changes) 8 (λ k l. omega (arith, key_length, line_short (bytes "part=") 1 (k + 1) (omega (arith, l, m)))) in
    rw (length-append (line_of "stop=" (step_at job i) ++ line_of "count=" (length (parts_at plan i))), length-append (line_of "stop=" (step_at job i)))
    (omega (
      arith,
      key_length,
      m,
      parts,
      line_short (bytes "stop=") 2 (step_at job i) h,
      line_short (bytes "count=") 1 (length (parts_at plan i)) (omega (arith, m, chosen_few (is_changed_lem plan i) (λ (k : ℕ). k + 1) (length plan.changes))),
    ))

-- a line's plan with its cost
own_short : (a : Accepted) (p : Plan) → length (own_lines (line_held a p)) ≤ 25 + length (job_of a.job).openings * 146
unfolding plan_lines_of plan_text_lem visits_of
own_short a p =
    let job = job_of a.job in
    let plan = plan_for a.job p in
    let few : length plan.changes ≤ 16 = omega (arith, a.job.few_parts, length-map (take a.job.part_count p.changes) (λ (c : Changes). take a.job.opening_count c.at), length-take a.job.part_count p.changes) in
    let stops = chosen_short visit_text (λ i. get_or plan.stops i false) (visit_at job plan) (length job.openings) 146 (λ i l. visit_short job plan i (step_small job a.valid i) few) in
    rw (length-append (line_of "cost=" (cost_of_lem job plan) ++ line_of "stops=" (length (visits_of job plan))), length-append (line_of "cost=" (cost_of_lem job plan)))
    (omega (
      arith,
      key_length,
      stops,
      line_short (bytes "cost=") 9 (cost_of_lem job plan) (omega (arith, cost_most job a.valid plan)),
      line_short (bytes "stops=") 1 (length (visits_of job plan)) (omega (arith, a.valid.few_openings, chosen_few (λ i. get_or plan.stops i false) (visit_at job plan) (length job.openings))),
    ))

-- ---- the hall

-- the lines' plans
lines_most : (jobs : List Accepted) (plans : List Plan) → length (texts own_lines (held jobs plans)) ≤ length jobs * 25 + openings_in (map line_of_lem jobs) * 146
lines_most [] plans = omega arith
lines_most (a ∷ jobs) [] = omega arith
lines_most (a ∷ jobs) (p ∷ plans) = rw (length-append (own_lines (line_held a p))) (omega (arith, own_short a p, lines_most jobs plans))

-- what is printed of the plans
plans_short : (h : HallJobs) (cost : ℕ) (plans : List Plan) → length (plans_lines (hall_of h).jobs cost (plans_held h plans)) ≤ 9460
unfolding plans_lines
plans_short h cost plans =
    rw (length-append (line_of "cost=" cost))
    (omega (arith, key_length, line_most (bytes "cost=") cost, h.few, h.fits.openings, lines_most (take h.count h.jobs) plans, length-take-le h.count h.jobs (omega (arith, h.few, h.long))))

-- the lines of an answer, whatever the finding
pub hall_short : (f : Finding) (h : HallJobs) (plans : List Plan) → length (hall_lines (hall_of h) (found_answer (plans_held h plans) f)) ≤ answer_room
unfolding hall_planned_lines bytes
hall_short NoPlan h plans = omega (arith, line_most (bytes "result=") 6)
hall_short (Optimum n m c) h plans = rw length-append (omega (arith, search_short 0 n m, plans_short h c plans))
hall_short (Cut n m c) h plans = rw length-append (omega (arith, search_short 7 n m, plans_short h c plans))
hall_short (CutBare n m) h plans = omega (arith, search_short 7 n m)
