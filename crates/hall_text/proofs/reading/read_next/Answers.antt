-- `read_next`: the job's own faults first; then it joins the lines, or is 14 on the line where it began.
use mathlib.Core.Path.{sym, ap, ◌∙◌}
use lib.ListN.{length, length-append}
use Rattle.std.proofs.lemmas.Result.{err_from_is_err_and}
use Rattle.lines.specs.Parser.{good, fault}
use Rattle.lines.specs.Fault.{number_of_lem}
use Rattle.lines.specs.declared.fault.Fault.{Fault}
use Rattle.hall_model.specs.Hall.{Hall}
use Rattle.hall_jobs.specs.Views.{hall_of, jobs_of}
use Rattle.hall_text.proofs.Behind.{own_fault, admitted, broken}
use Rattle.hall_text.proofs.reading.read_next.Goals as goal

pub returns-in_err-next : goal.returns-in_err-next
returns-in_err-next c = let p = err_from_is_err_and c.from_residual.result c.from_residual.ensures.1 in
    rw (p.1, p.2) (record { reads = own_fault (hall_of c.args.sofar.hall) _ _ c.in_err-next.ensures; longer = tt })

pub returns-then-admits : goal.returns-then-admits
returns-then-admits c = let left = c.read_line.new.lines in
    record {
      reads = ap (λ (h : Hall). good h left.rest.now left.line) c.joined.ensures ∙ admitted (hall_of c.args.sofar.hall) _ _ c.in_ok-next.ensures (sym c.admits.ensures ∙ c.if-admits.true);
      longer = ap (λ (h : Hall). length h.jobs) c.joined.ensures ∙ length-append (jobs_of c.args.sofar.hall) _;
    }

pub returns-else-admits : goal.returns-else-admits
returns-else-admits c = record {
  reads = ap (λ (f : Fault). fault (number_of_lem f.kind) f.line) c.fault-broken.ensures ∙ broken (hall_of c.args.sofar.hall) _ _ c.in_ok-next.ensures (sym c.admits.ensures ∙ c.if-admits.false);
  longer = tt;
}
