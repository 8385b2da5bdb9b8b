-- `whole::read_plan_lines`, line by line.
use Rattle.std.proofs.Common.{rules, List, Ok, sym}
use mathlib.Core.Path.{subst}
use Rattle.lines.specs.Text.{bytes}
use Rattle.lines.specs.Reads.{Reads}
use Rattle.lines.proofs.Parsing.{stopped, went_on}
use Rattle.lines.proofs.Steps.{put_value}
use Rattle.model.specs.Model as model
use Rattle.jobs.specs.Views.{job_of}
use Rattle.plan_grammar.specs.Grammar.{Visit, Stated, plan_of, plan_lines}
use Rattle.plan_text.proofs.whole.read_plan_lines.Goals as goal

pub returns-in_err-cost : goal.returns-in_err-cost
unfolding plan_lines bytes
returns-in_err-cost c = search (rules, stopped)

pub returns-in_err-n : goal.returns-in_err-n
unfolding plan_lines bytes
returns-in_err-n c = went_on _ _ c.args.lines.now c.field.new.self c.field-2.new.self _ _ c.in_ok-cost.ensures.reads (search (rules, stopped))

pub returns-in_err-plan : goal.returns-in_err-plan
unfolding plan_lines bytes
returns-in_err-plan c = let k = c.in_err-plan.ensures.reads in
    went_on _ _ c.args.lines.now c.field.new.self c.read_visits.new.lines _ _ c.in_ok-cost.ensures.reads
    (went_on _ _ c.field.new.self c.field-2.new.self c.read_visits.new.lines _ _ c.in_ok-n.ensures.reads (search (rules, stopped, k)))

pub returns : goal.returns
unfolding plan_lines bytes
returns c = let read = c.in_ok-plan.ensures in
    let a = c.read_visits.new.lines in
    let job = job_of c.args.job.now in
    let cost = c.in_ok-cost.cost in
    let made : List Visit → Stated = λ vs. record { cost = cost; plan = plan_of job vs } in
    let k = went_on _ _ c.args.lines.now c.field.new.self a _ (Ok (made read.vs)) c.in_ok-cost.ensures.reads
    (went_on _ _ c.field.new.self c.field-2.new.self a _ (Ok (made read.vs)) c.in_ok-n.ensures.reads (put_value made _ c.field-2.new.self a _ read.reads)) in
    subst (λ (plan : model.Plan). Reads (plan_lines job) c.args.lines.now a (Ok (record { cost = cost; plan = plan }))) (sym read.makes) k
