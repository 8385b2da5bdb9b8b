-- `read_first`: the first job's lines decide.
use mathlib.Core.Path.{ap, ◌∙◌}
use lib.ListN.{length}
use Rattle.std.proofs.lemmas.Result.{err_from_is_err_and}
use Rattle.lines.specs.Parser.{good}
use Rattle.hall_model.specs.Hall.{Hall}
use Rattle.hall_grammar.specs.Reading.{no_lines}
use Rattle.hall_text.proofs.Behind.{own_fault, admitted, first_admitted}
use Rattle.hall_text.proofs.reading.read_first.Goals as goal

pub returns-in_err-job : goal.returns-in_err-job
returns-in_err-job c = let p = err_from_is_err_and c.from_residual.result c.from_residual.ensures.1 in
    rw (p.1, p.2) (record { reads = own_fault (no_lines c.args.call) _ _ c.in_err-job.ensures; one = tt })

pub returns : goal.returns
returns c = let left = c.read_line.new.lines in
    record {
      reads = ap (λ (h : Hall). good h left.rest.now left.line) c.first.ensures ∙ admitted (no_lines c.args.call) _ _ c.in_ok-job.ensures (first_admitted _ c.in_ok-job.job.valid);
      one = ap (λ (h : Hall). length h.jobs) c.first.ensures;
    }
