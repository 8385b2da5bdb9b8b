-- `read_all`: the lines decide, and what stands behind them.
use Rattle.std.proofs.lemmas.Result.{err_from_is_err_and}
use Rattle.lines.proofs.Parsing.{whole_fault, whole_more, whole_value}
use Rattle.hall_grammar.specs.Reading.{hall_rows}
use Rattle.hall_jobs.specs.Views.{hall_of}
use Rattle.hall_text.proofs.reading.read_all.Goals as goal

pub returns-in_err-hall : goal.returns-in_err-hall
returns-in_err-hall c = let p = err_from_is_err_and c.from_residual.result c.from_residual.ensures.1 in
    let of = c.of-lines in
    rw (p.1, p.2) (whole_fault hall_rows c.args.text.now of.result c.read_hall_lines.new.lines of.ensures.rest of.ensures.line c.in_err-hall.field-0.0 c.in_err-hall.ensures)

pub returns-in_err-end : goal.returns-in_err-end
returns-in_err-end c = let p = err_from_is_err_and c.from_residual-in_err-end.result c.from_residual-in_err-end.ensures.1 in
    let of = c.of-lines in
    rw (p.1, p.2) (whole_more hall_rows c.args.text.now of.result c.read_hall_lines.new.lines of.ensures.rest of.ensures.line _ c.in_err-end.field-0.0 c.in_ok-hall.ensures c.in_err-end.ensures)

pub returns : goal.returns
returns c = let of = c.of-lines in
    whole_value hall_rows c.args.text.now of.result c.read_hall_lines.new.lines of.ensures.rest of.ensures.line (hall_of c.in_ok-hall.hall) c.in_ok-hall.ensures c.in_ok-end.ensures
