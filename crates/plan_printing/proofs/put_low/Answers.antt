-- `put_low`: the cost at the low ends where the text has a `low` line, else nothing.
use mathlib.Core.Path.{◌≡◌, sym, ap, ◌∙◌}
use Rattle.lines.specs.Text.{bytes, line_of}
use Rattle.line_writing.proofs.Putting.{none, same, room_same}
use Rattle.model.specs.Model.{cost_of_lem}
use Rattle.jobs.specs.Views.{job_of, plan_for}
use Rattle.jobs.specs.declared.Job.{Job}
use Rattle.job_grammar.specs.Grammar.{Given}
use Rattle.job_text.specs.Views.{given_in}
use Rattle.plan_printing.specs.Printed.{low_lines}
use Rattle.plan_printing.proofs.Lows.{low_sound, low_cost, low_small, low_due, low_none}
use Rattle.plan_printing.proofs.put_low.Goals as goal
use Rattle.plan_printing.proofs.put_low.Goals.{After-cost_of}

pub low_job-requires : goal.low_job-requires
low_job-requires c = ap (λ (g : Given). g.job.parts) c.args.text.now.means

pub of-low-requires : goal.of-low-requires
of-low-requires c = low_sound c.args.text.now c.low_job.result c.low_job.ensures

-- the cost is that of the low job
cost : (c : After-cost_of) → c.cost_of.result ≡ cost_of_lem (job_of c.low_job.result) (plan_for c.low_job.result c.args.plan.now)
cost c = c.cost_of.ensures ∙ ap (λ (j : Job). cost_of_lem (job_of j) (plan_for j c.args.plan.now)) c.of-low.ensures

-- the line is due
due : (c : After-cost_of) → line_of "costlow=" c.cost_of.result ≡ low_lines (given_in c.args.text.now) (plan_for c.args.text.now.job.job c.args.plan.now)
due c = low_due (given_in c.args.text.now) (plan_for c.args.text.now.job.job c.args.plan.now) c.cost_of.result (sym c.is_banded.ensures ∙ c.if-is_banded.true)
    (low_cost c.args.text.now c.low_job.result c.low_job.ensures c.cost_of.result c.args.plan.now (cost c))

pub put_line-requires : goal.put_line-requires
unfolding bytes
put_line-requires c = let here = (goal.at.put_line-requires c).After-cost_of in
    record { n_bound = low_small c.args.text.now c.low_job.result c.low_job.ensures c.cost_of.result c.args.plan.now (cost here); n_in_bounds = room_same c.requires (sym (due here)) }

pub returns-then-is_banded : goal.returns-then-is_banded
unfolding bytes
returns-then-is_banded c = same c.put_line.ensures (due (goal.at.returns-then-is_banded c).After-cost_of)

pub returns-else-is_banded : goal.returns-else-is_banded
returns-else-is_banded c = same none (low_none (given_in c.args.text.now) (plan_for c.args.text.now.job.job c.args.plan.now) (sym c.is_banded.ensures ∙ c.if-is_banded.false))
