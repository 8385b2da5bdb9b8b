-- `count`: a fault of the job text is handed over with its line; else the job is counted. The promise holds of the defined answer.
use Prim.Native.Nat.{ℕ}
use mathlib.Core.Path.{◌≡◌, sym, ap, ◌∙◌}
use native.Mathlib.Omega.{arith}
use Rattle.lines.specs.Parser.{accepted, refused}
use Rattle.fault_lines.specs.declared.fault.Span.{Span}
use Rattle.job_text.proofs.Views.{refused_job, accepted_job}
use Rattle.job_grammar.proofs.Numbered.{fault}
use Rattle.counting.specs.declared.Counted.{Counted}
use Rattle.counting.specs.Count.{on_job, count_said}
use Rattle.counting.specs.Promise.{CountPromise}
use Rattle.counting.proofs.Promised.{promised}
use Rattle.counting.proofs.count.Goals as goal
use Rattle.counting.proofs.count.Goals.{Start}

-- the defined answer keeps the promise
kept : (c : Start) (r : Counted) → r ≡ count_said c.args.job.now → (r ≡ count_said c.args.job.now) × CountPromise c.args.job.now r
kept c r e = (e, rw e (promised c.args.job.now))

pub overflow_cast-result : goal.overflow_cast-result
overflow_cast-result c = omega (arith, (fault _ _ _ (refused_job c.args.job.now c.read_job.ensures c.in-Err.is)).1)

pub returns-in-Err : goal.returns-in-Err
unfolding count_said
returns-in-Err c = kept (goal.at.returns-in-Err c).Start _
    (ap
    (λ (x : Span). record { result = c.number.result; text = 1; line = c.in-Err.fault.line; count = 0; fault_start = x.start; fault_length = x.length })
    c.fault_span-span.ensures
    ∙ ap (λ (n : ℕ). on_job c.args.job.now (refused n c.in-Err.fault.line)) c.number.ensures
    ∙ ap (on_job c.args.job.now) (sym (refused_job c.args.job.now c.read_job.ensures c.in-Err.is)))

pub returns-in-Ok : goal.returns-in-Ok
unfolding count_said
returns-in-Ok c = kept (goal.at.returns-in-Ok c).Start _
    (c.counted_job.ensures ∙ ap (on_job c.args.job.now) (sym (accepted_job c.args.job.now c.read_job.ensures c.in-Ok.is)))
