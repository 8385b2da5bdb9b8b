-- The low job of an accepted text is what the text means at the low ends, and sound (`low_is`, `low_sound`), and a plan's cost in it is the one that is due (`low_cost`); the line of that cost, where it is due (`low_due`, `low_none`). By the job's fields.
use Prim.Native.Nat.{ℕ, ◌<◌}
use mathlib.Core.Path.{◌≡◌, sym, ap, ap₂, subst, ◌∙◌}
use mathlib.Core.Bool.{Bool, true, false, cond}
use mathlib.Core.List.{[], map}
use native.Mathlib.Omega.{arith}
use lib.ListN.{length}
use Rattle.lines.specs.Text.{line_of}
use Rattle.model.specs.Model as model
use Rattle.model.specs.Model.{cost_of_lem}
use Rattle.jobs.specs.declared.Job.{Job}
use Rattle.jobs.specs.declared.Plan.{Plan}
use Rattle.jobs.specs.Views.{job_of, model_plan, plan_for}
use Rattle.jobs.specs.Valid.{ValidJob, Sound}
use Rattle.jobs.proofs.Jobs.{sized}
use Rattle.plan_costs.proofs.Dearest.{cost_most}
use Rattle.job_grammar.specs.Grammar.{Given}
use Rattle.job_grammar.proofs.Optionals.{idle_steps_lem2}
use Rattle.part_lines.specs.Grammar.{low_part_lem}
use Rattle.job_text.specs.declared.accepted.AcceptedText.{AcceptedText}
use Rattle.job_text.specs.Views.{text_in, given_in}
use Rattle.low_ends.specs.Lows.{LowJob}
use Rattle.plan_printing.specs.Printed.{low_lines}

module _ (t : AcceptedText) (r : Job) (l : LowJob t.said t.job.job r) where
  low_is : job_of r ≡ (given_in t).low
  low_is =
      let f = idle_steps_lem2 (job_of t.job.job).idles in
      l.is ∙ (λ i. record { horizon = t.job.job.horizon; idles = f i; openings = (job_of t.job.job).openings; parts = map (low_part_lem (length (text_in t).openings)) (text_in t).parts })

  pub low_sound : Sound r
  low_sound = record { sized = sized r; valid = subst ValidJob (sym low_is) t.valid.low }

  low_plan : (p : Plan) → plan_for r p ≡ plan_for t.job.job p
  low_plan p = ap₂ (λ (n m : ℕ). model_plan n m p) l.openings l.parts

  pub low_cost : (c : ℕ) (p : Plan) → c ≡ cost_of_lem (job_of r) (plan_for r p) → c ≡ cost_of_lem (given_in t).low (plan_for t.job.job p)
  low_cost c p e = e ∙ ap₂ cost_of_lem low_is (low_plan p)

  -- a plan's cost at the low ends is below 10,000,000,000
  pub low_small : (c : ℕ) (p : Plan) → c ≡ cost_of_lem (job_of r) (plan_for r p) → c < 10000000000
  low_small c p e = omega (arith, e, cost_most (job_of r) low_sound.valid (plan_for r p))

-- the line where the text has a `low` line, and where it has none
pub low_due : (g : Given) (plan : model.Plan) (c : ℕ) → g.banded ≡ true → c ≡ cost_of_lem g.low plan → line_of "costlow=" c ≡ low_lines g plan
unfolding low_lines
low_due g plan c e f = ap (line_of "costlow=") f ∙ ap (λ (b : Bool). cond b (line_of "costlow=" (cost_of_lem g.low plan)) []) (sym e)

-- without a `low` line no `costlow` line is printed
pub low_none : (g : Given) (plan : model.Plan) → g.banded ≡ false → [] ≡ low_lines g plan
unfolding low_lines
low_none g plan e = ap (λ (b : Bool). cond b (line_of "costlow=" (cost_of_lem g.low plan)) []) (sym e)
