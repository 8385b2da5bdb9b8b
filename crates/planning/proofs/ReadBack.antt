-- What the planner prints, read back: the lines behind `floor`, and behind the cost at the low ends, are, by the plan grammar and against the same job, the promised plan and its cost (`reads_back`);
-- so the judge, given the same job text and those lines, says 0 with the same cost (`judge_accepts`). By the printed lines' read-back and the best plan's acceptance.
use Prim.Native.Nat.{ℕ}
use mathlib.Core.Path.{◌≡◌, refl}
use mathlib.Core.List.{List}
use mathlib.Core.Bool.{Bool}
use native.Mathlib.Omega.{arith}
use Rattle.lines.specs.Parser.{accepted}
use Rattle.model.specs.Model.{Job, Plan}
use Rattle.model.specs.Promise.{PlannerAnswer, no_plan_lem2, cut_none, cut, optimum, Any, BestPlan, Walked, Promise}
use Rattle.model.proofs.Verdicts.{lives_shaped, best_accepted}
use Rattle.job_grammar.specs.Grammar.{Given, read_job_lem}
use Rattle.jobs.specs.Valid.{ValidJob}
use Rattle.job_grammar.proofs.Accepted.{valid}
use Rattle.plan_grammar.specs.Grammar.{read_plan_lem}
use Rattle.plan_grammar.specs.Rendering.{plan_lines_of}
use Rattle.plan_grammar.proofs.Printed.{read_back}
use Rattle.plan_costs.proofs.Dearest.{cost_most}
use Rattle.answers.specs.Said.{plainly}
use Rattle.judging.specs.Judge.{cost_lines, judge_said}
use Rattle.plan_printing.specs.Printed.{printed_lines}
use Rattle.planning.specs.Plan.{planned_lines, planner_reply}
use Rattle.planning.specs.Promise.{PrintsAnswer}

-- for 0 (`Any`) and for 7 with a plan (`Walked`)

module _ (text : List ℕ) (given : Given) (is : read_job_lem text ≡ accepted given) (Among : List Bool → Type 0) (cost : ℕ) (plan : Plan) (best : BestPlan given.job Among cost plan) where
  abbrev job : Job
  job = given.job

  abbrev lines : List ℕ
  lines = plan_lines_of job cost plan

  ok : ValidJob job
  ok = (valid text given is).job

  pub reads_back : read_plan_lem job lines ≡ accepted (record { cost = cost; plan = plan })
  reads_back = read_back job ok cost plan (omega (arith, best.states, cost_most job ok plan)) (lives_shaped job plan best.keeps)

  pub judge_accepts : judge_said text lines ≡ plainly 0 (cost_lines 0 cost)
  unfolding judge_said
  judge_accepts =
      rw (is) (rw (reads_back) (rw (best_accepted job Among cost plan best) refl))

-- what is written for an answer that keeps the promise: behind `floor` its plan
module _ (text : List ℕ) (given : Given) (is : read_job_lem text ≡ accepted given) (limit : ℕ) where
  pub prints : (a : PlannerAnswer) → Promise given.job limit a → PrintsAnswer text given (planner_reply given a) a
  unfolding planned_lines printed_lines
  prints no_plan_lem2 p = tt
  prints (cut_none n f) p = refl
  prints (cut n f c q) p = record {
    lines = plan_lines_of given.job c q;
    written = refl;
    reads_back = reads_back text given is (Walked given.job limit) c q p.plan_for_lem;
    judged = judge_accepts text given is (Walked given.job limit) c q p.plan_for_lem;
  }
  prints (optimum n f c q) p = record {
    lines = plan_lines_of given.job c q;
    written = refl;
    reads_back = reads_back text given is Any c q p.plan_for_lem;
    judged = judge_accepts text given is Any c q p.plan_for_lem;
  }
