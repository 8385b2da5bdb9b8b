-- `stops::read_visit`, line by line.
use Rattle.std.proofs.Common.{ℕ, List, [], Err, Ok, length, ◌≡◌, refl, sym}
use Rattle.std.proofs.lemmas.Result.{err_from_is_err_and}
use mathlib.Core.Path.{subst}
use Rattle.lines.specs.Text.{bytes}
use Rattle.lines.specs.Reads.{Reads}
use Rattle.lines.proofs.Parsing.{stopped, went_on}
use Rattle.lines.proofs.Steps.{put_value}
use Rattle.jobs.specs.Views.{job_of}
use Rattle.jobs.proofs.Jobs.{part_count}
use Rattle.plan_grammar.specs.Grammar.{Visit, visit, parts}
use Rattle.plan_stops.specs.Marks.{with_visit}
use Rattle.plan_stops.proofs.stops.read_visit.Goals as goal

-- no visit is told where a line has a fault
abbrev no_visit : Visit
no_visit = record { step = 0; parts = [] }

pub returns-in_err-step : goal.returns-in_err-step
unfolding visit
returns-in_err-step c = let p = err_from_is_err_and c.from_residual.result c.from_residual.ensures.1 in
    rw (p.1, p.2) (record { v = no_visit; reads = stopped _ _ c.args.lines.now c.read_step.new.lines c.read_step.new.lines c.in_err-step.field-0.0 c.in_err-step.ensures; marks = tt })

pub returns-in_err-n : goal.returns-in_err-n
unfolding visit bytes
returns-in_err-n c = let b = c.args.lines.now in
    let m = c.read_step.new.lines in
    let a = c.field.new.self in
    let p = err_from_is_err_and c.from_residual-in_err-n.result c.from_residual-in_err-n.ensures.1 in
    rw (p.1, p.2) (record { v = no_visit; reads = went_on _ _ b m a _ (Err c.in_err-n.field-0.0) c.in_ok-step.ensures (stopped _ _ m a a c.in_err-n.field-0.0 c.in_err-n.ensures.reads); marks = tt })

pub returns-in_err-changes : goal.returns-in_err-changes
unfolding visit bytes
returns-in_err-changes c = let b = c.args.lines.now in
    let m = c.read_step.new.lines in
    let k = c.field.new.self in
    let a = c.read_changes.new.lines in
    let p = err_from_is_err_and c.from_residual-in_err-changes.result c.from_residual-in_err-changes.ensures.1 in
    let parts_end = subst (λ (m : ℕ). Reads (parts m c.in_ok-n.n) k a (Err c.in_err-changes.field-0.0)) (sym (part_count c.args.job.now)) c.in_err-changes.ensures.reads in
    rw (p.1, p.2) (record { v = no_visit; reads = let e = c.in_err-changes.field-0.0 in went_on _ _ b m a _ (Err e) c.in_ok-step.ensures (went_on _ _ m k a _ (Err e) c.in_ok-n.ensures.reads (stopped _ _ k a a e parts_end)); marks = tt })

pub returns : goal.returns
unfolding visit bytes with_visit
returns c = let b = c.args.lines.now in
    let m = c.read_step.new.lines in
    let k = c.field.new.self in
    let a = c.read_changes.new.lines in
    let read = c.in_ok-changes.ensures in
    let step = c.in_ok-step.step in
    let made : List ℕ → Visit = λ ks. record { step = step; parts = ks } in
    let v : Visit = made read.ks in
    let parts_end = subst (λ (m : ℕ). Reads (parts m c.in_ok-n.n) k a (Ok read.ks)) (sym (part_count c.args.job.now)) read.reads in
    record {
      v = v;
      reads = went_on _ _ b m a _ (Ok v) c.in_ok-step.ensures (went_on _ _ m k a _ (Ok v) c.in_ok-n.ensures.reads (put_value made _ k a _ parts_end));
      marks = (refl, λ i. record { stops = c.mark-stops.ensures i; changes = read.marks i });
    }
