-- `stops::read_changes`: the parts ks were read, and they are marked.
use Rattle.std.proofs.Common.{◌≡◌, length, length-set, [], ◌∷◌, ◌++◌, arith, refl, sym, ◌∙◌}
use Rattle.std.proofs.lemmas.Result.{err_from_is_err_and}
use Rattle.lines.specs.Text.{bytes}
use Rattle.lines.proofs.Steps.{chain_none, chain_next, chain_stopped, chain_done}
use Rattle.jobs.specs.Views.{job_of, changes_for}
use Rattle.jobs.proofs.Jobs.{part_count}
use Rattle.jobs.proofs.Plans.{changes_size}
use Rattle.plan_grammar.specs.Grammar.{part, parts}
use Rattle.plan_stops.proofs.Marks.{parts_none, changes_more}
use Rattle.plan_stops.proofs.stops.read_changes.Goals as goal

pub loop-init : goal.loop-init
loop-init c = record {
  long = omega arith;
  ks = [];
  read = chain_none _ _ _ _ _ _ refl;
  marked = parts_none (job_of c.args.job.now) c.args.step (changes_for c.args.job.now c.args.changes) (changes_size c.args.job.now.opening_count _ c.args.changes (omega (arith, c.args.job.now.few_parts)) ∙ sym (part_count c.args.job.now));
}

pub loop-preserved : goal.loop-preserved
unfolding part bytes
loop-preserved c = let job = c.args.job.now in
    let v = c.loop.invariant in
    let k = c.in_ok-part.part in
    record {
      long = simp length-set v.long;
      ks = v.ks ++ k ∷ [];
      read = chain_next v.read c.rising.new.self k _ c.loop-test.true c.in_ok-part.ensures.reads refl;
      marked = changes_more (job_of job) job.opening_count job.part_count c.args.step (changes_for job c.args.changes) c.loop.marks v.ks k c.mark.result
          (part_count c.args.job.now) (omega arith) (omega (arith, c.in_ok-part.ensures.within)) (omega (arith, c.in_ok-part.ensures.within)) v.marked c.mark.ensures;
    }

pub returns-in_err-part : goal.returns-in_err-part
unfolding parts part bytes
returns-in_err-part c = let v = c.loop.invariant in
    let p = err_from_is_err_and c.from_residual.result c.from_residual.ensures.1 in
    rw (p.1, p.2) (record { ks = []; reads = chain_stopped v.read c.rising.new.self c.in_err-part.field-0.0 c.loop-test.true c.in_err-part.ensures.reads; marks = tt })

pub returns : goal.returns
unfolding parts
returns c = let v = c.loop.invariant in
    record { ks = v.ks; reads = chain_done v.read v.ks (omega arith) refl; marks = v.marked }
