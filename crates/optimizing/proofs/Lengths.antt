-- What the search ends in can be printed (`fits`): of an accepted job, floor and cost are at most what a plan can cost. And its lines fit the room, 16,384 bytes (`lines_short`).
use Prim.Native.Nat.{ℕ, ◌≤◌}
use native.Mathlib.Omega.{arith}
use lib.ListN.{length, length-append}
use Rattle.std.specs.Prelude.{Option, None, Some}
use Rattle.lines.specs.Text.{bytes}
use Rattle.lines.proofs.Writing.{line_most}
use Rattle.model.specs.Model as model
use Rattle.model.specs.Promise.{PlannerAnswer, no_plan_lem2, cut_none, cut, optimum}
use Rattle.jobs.specs.declared.Plan.{Plan}
use Rattle.jobs.specs.Valid.{ValidJob}
use Rattle.jobs.specs.Views.{plan_for}
use Rattle.job_text.specs.declared.accepted.AcceptedText.{AcceptedText}
use Rattle.job_text.specs.Views.{given_in}
use Rattle.plan_costs.specs.Dearest.{dearest_plan}
use Rattle.plan_costs.proofs.Dearest.{cost_most}
use Rattle.plan_printing.proofs.Lengths.{printed_short}
use Rattle.findings.specs.Finding.{found_answer}
use Rattle.findings.specs.declared.Finding.{Finding}
use Rattle.findings.specs.declared.Finding.TheVariants.{NoPlan, Optimum, Cut, CutBare}
use Rattle.optimum_search.specs.Ends.{Beyond, Ends}
use Rattle.optimizing.specs.Optimum.{floor_lines, optimum_lines, PrintableOptimum, optimum_room}

module _ (job : model.Job) (valid : ValidJob job) (walk : ℕ) where
  -- the floor is at most the cost of a plan
  floor_most : (floor : ℕ) (in_hand : Option ℕ) → Beyond job walk floor in_hand → floor ≤ dearest_plan
  floor_most floor in_hand b = omega (arith, b.none_under b.has_plan.0 b.has_plan.1, cost_most job valid b.has_plan.0)

  pub fits : (a : PlannerAnswer) → Ends job walk a → PrintableOptimum a
  fits no_plan_lem2 p = tt
  fits (cut_none n f) p = omega (arith, floor_most f None p.0)
  fits (cut n f c q) p = (omega (arith, floor_most f (Some c) p.0), omega (arith, p.1.best.states, cost_most job valid q))
  fits (optimum n f c q) p = omega (arith, p.states, cost_most job valid q)

-- the lines `result` and `floor` have at most 35 bytes together
floor_short : (f : ℕ) → length (floor_lines f) ≤ 35
unfolding floor_lines bytes
floor_short f = rw length-append (omega (arith, line_most (bytes "result=") 7, line_most (bytes "floor=") f))

-- the lines of an answer that can be printed fit the room that the call asks for
pub lines_short : (f : Finding) (t : AcceptedText) (p : Plan) → PrintableOptimum (found_answer (plan_for t.job.job p) f) → length (optimum_lines (given_in t) (found_answer (plan_for t.job.job p) f)) ≤ optimum_room
unfolding bytes
lines_short NoPlan t p h = omega (arith, line_most (bytes "result=") 6)
lines_short (Optimum n m c) t p h = rw length-append (omega (arith, line_most (bytes "result=") 0, printed_short t c p h))
lines_short (Cut n m c) t p h = rw length-append (omega (arith, floor_short m, printed_short t c p h.1))
lines_short (CutBare n m) t p h = omega (arith, floor_short m)
