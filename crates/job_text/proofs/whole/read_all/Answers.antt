-- `read_all`: the lines decide, and what stands behind them.
use Rattle.std.proofs.lemmas.Result.{err_from_is_err_and}
use Rattle.lines.proofs.Parsing.{whole_fault, whole_more, whole_value}
use Rattle.job_grammar.specs.Grammar.{job_lines}
use Rattle.job_text.specs.Views.{text_of}
use Rattle.job_text.proofs.whole.read_all.Goals as goal

pub returns-in_err-said : goal.returns-in_err-said
returns-in_err-said c = let p = err_from_is_err_and c.from_residual.result c.from_residual.ensures.1 in
    let of = c.of-lines in
    rw (p.1, p.2) (whole_fault job_lines c.args.text.now of.result c.read_job_lines.new.lines of.ensures.rest of.ensures.line c.in_err-said.field-0.0 c.in_err-said.ensures)

pub returns-in_err-end : goal.returns-in_err-end
returns-in_err-end c = let p = err_from_is_err_and c.from_residual-in_err-end.result c.from_residual-in_err-end.ensures.1 in
    let of = c.of-lines in
    rw (p.1, p.2) (whole_more job_lines c.args.text.now of.result c.read_job_lines.new.lines of.ensures.rest of.ensures.line _ c.in_err-end.field-0.0 c.in_ok-said.ensures c.in_err-end.ensures)

pub returns : goal.returns
returns c = let of = c.of-lines in
    whole_value job_lines c.args.text.now of.result c.read_job_lines.new.lines of.ensures.rest of.ensures.line (text_of c.in_ok-said.said) c.in_ok-said.ensures c.in_ok-end.ensures
