-- What is printed of a hall's plans, read back: each line's plan lines are, against its job, its plan and what that costs it; so the judge, given the line's own job text, accepts them. By the printed lines' read-back,
-- line by line.
use Prim.Native.Nat.{ℕ}
use mathlib.Core.Path.{◌≡◌, refl, ap}
use mathlib.Core.List.{List, [], ◌∷◌, ◌++◌, map}
use native.Mathlib.Omega.{arith}
use Rattle.lines.specs.Text.{texts}
use Rattle.lines.specs.Parser.{accepted}
use Rattle.branch.specs.Planning.{no_plan_lem2, cut_none, cut, optimum}
use Rattle.model.specs.Model.{Job, Plan, cost_of_lem, Each, KeepsLives}
use Rattle.model.specs.Verdict.{judged_of, accepts}
use Rattle.model.proofs.Verdicts.{lives_shaped}
use Rattle.model.proofs.Verdicts as verdicts
use Rattle.job_grammar.specs.Grammar.{JobText, meant, meaning, read_job_lem}
use Rattle.job_grammar.specs.Rendering.{job_text_lem}
use Rattle.job_grammar.specs.Valid.{ValidText}
use Rattle.job_grammar.proofs.Complete.{read_back as job-back}
use Rattle.plan_grammar.specs.Grammar.{read_plan_lem}
use Rattle.plan_grammar.specs.Rendering.{plan_lines_of}
use Rattle.plan_grammar.proofs.Printed.{read_back as plan-back}
use Rattle.plan_costs.proofs.Dearest.{cost_most}
use Rattle.judging.specs.Judge.{judge_said}
use Rattle.hall_model.specs.Hall.{Hall, KeepsAll}
use Rattle.hall_model.specs.Promise.{HallAnswer, HallAnswerPromise}
use Rattle.job_grammar.specs.Reading.{meant_job}
use Rattle.hall_grammar.specs.Grammar.{HallText, meant_hall}
use Rattle.hall_grammar.specs.Valid.{Joined, ValidHall}
use Rattle.hall_printing.specs.Lines.{own_lines, line_plans, plans_lines, hall_planned_lines, hall_reply}
use Rattle.hall_planning.specs.Promise.{PrintsLine, PrintsLines, PrintsHall}

module _ (t : JobText) (v : ValidText t) (plan : Plan) (keeps : KeepsLives (meant_job t) plan) where
  abbrev job : Job
  job = meant_job t

  abbrev cost : ℕ
  cost = cost_of_lem job plan

  back : read_plan_lem job (plan_lines_of job cost plan) ≡ accepted (record { cost = cost; plan = plan })
  back = plan-back job v.means.job cost plan (omega (arith, cost_most job v.means.job plan)) (lives_shaped job plan keeps)

  -- the job text of the line, by itself
  alone : read_job_lem (job_text_lem t) ≡ accepted (meant t)
  alone = ap meaning (job-back t v)

  right : judged_of job cost plan ≡ accepts cost
  right = (verdicts.accepted job plan cost (lives_shaped job plan keeps)).1 (keeps, refl)

  prints_line : PrintsLine t plan (plan_lines_of job cost plan)
  unfolding judge_said
  prints_line = record { reads_back = back; judged = rw (alone) (rw (back) (rw (right) refl)) }

-- each line's
prints_lines : (ts : List JobText) (before : List Job) → Joined before ts → (plans : List Plan) → Each KeepsLives (map meant_job ts) plans → PrintsLines ts plans (texts own_lines (line_plans (map meant_job ts) plans))
prints_lines [] before j [] k = refl
prints_lines [] before j (p ∷ plans) k = absurd k
prints_lines (t ∷ ts) before j [] k = absurd k
prints_lines (t ∷ ts) before j (p ∷ plans) k =
    (own_lines (record { job = meant_job t; plan = p }), texts own_lines (line_plans (map meant_job ts) plans), refl, prints_line t j.0 p k.0, prints_lines ts (before ++ (meant_job t ∷ [])) j.2 plans k.1)

module _ (said : HallText) (v : ValidHall said) where
  abbrev hall : Hall
  hall = meant_hall said

  behind : (plans : List Plan) → KeepsAll hall plans → PrintsLines said.jobs plans (texts own_lines (line_plans hall.jobs plans))
  behind plans k = prints_lines said.jobs [] v.jobs plans k

  -- what is written for an answer that keeps the promise: behind `floor` its plans
  pub prints : (limit : ℕ) (a : HallAnswer) → HallAnswerPromise hall limit a → PrintsHall said (hall_reply hall a) a
  unfolding hall_planned_lines plans_lines
  prints limit no_plan_lem2 p = tt
  prints limit (cut_none n f) p = refl
  prints limit (cut n f c ps) p = record { lines = texts own_lines (line_plans hall.jobs ps); written = refl; each = behind ps p.planned.plan_for_lem.keeps }
  prints limit (optimum n f c ps) p = record { lines = texts own_lines (line_plans hall.jobs ps); written = refl; each = behind ps p.planned.plan_for_lem.keeps }
