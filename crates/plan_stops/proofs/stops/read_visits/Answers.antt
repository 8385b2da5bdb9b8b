-- `stops::read_visits`: the visits vs were read, and make the plan so far.
use Rattle.std.proofs.Common.{[], ◌∷◌, ◌++◌, arith, refl, ap, ◌∙◌}
use Rattle.std.proofs.lemmas.Result.{err_from_is_err_and}
use Rattle.lines.proofs.Steps.{chain_none, chain_next, chain_stopped, chain_done}
use Rattle.jobs.specs.Views.{job_of}
use Rattle.plan_grammar.specs.Grammar.{visits}
use Rattle.plan_stops.specs.Marks.{with_visit}
use Rattle.plan_stops.proofs.Marks.{empty_made, visit_more}
use Rattle.plan_stops.proofs.stops.read_visits.Goals as goal

pub loop-init : goal.loop-init
loop-init c = record { vs = []; read = chain_none _ _ _ _ _ _ refl; makes = empty_made c.args.job.now c.empty-plan.result c.empty-plan.ensures }

pub loop-preserved : goal.loop-preserved
loop-preserved c = let v = c.loop.invariant in
    let job = job_of c.args.job.now in
    let read = c.in_ok-step.ensures in
    record {
      vs = v.vs ++ read.v ∷ [];
      read = rw read.marks.0 (chain_next v.read c.read_visit.new.lines read.v _ c.loop-test.true read.reads refl);
      makes = read.marks.1 ∙ ap (with_visit job read.v) v.makes ∙ visit_more job v.vs read.v;
    }

pub returns-in_err-step : goal.returns-in_err-step
unfolding visits
returns-in_err-step c = let v = c.loop.invariant in
    let p = err_from_is_err_and c.from_residual.result c.from_residual.ensures.1 in
    rw (p.1, p.2) (record { vs = []; reads = chain_stopped v.read c.read_visit.new.lines c.in_err-step.field-0.0 c.loop-test.true c.in_err-step.ensures.reads; makes = tt })

pub returns : goal.returns
unfolding visits
returns c = let v = c.loop.invariant in
    record { vs = v.vs; reads = chain_done v.read v.vs (omega arith) refl; makes = v.makes }
