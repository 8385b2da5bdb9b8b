-- `whole::read_log`: a text over the limit is refused; else its lines decide, and what stands behind them.
use Rattle.std.proofs.Common.{arith, ◌∙◌}
use Rattle.std.proofs.lemmas.Result.{err_from_is_err_and}
use Rattle.lines.proofs.Parsing.{whole_fault, whole_more, whole_value, text_long, text_fits}
use Rattle.jobs.specs.Views.{job_of}
use Rattle.plan_grammar.specs.Grammar.{max_bytes}
use Rattle.log_grammar.specs.Grammar.{log_lines}
use Rattle.log_text.specs.Views.{said}
use Rattle.log_text.proofs.whole.read_log.Goals as goal

pub returns-then-text-gt-MAX_BYTES : goal.returns-then-text-gt-MAX_BYTES
returns-then-text-gt-MAX_BYTES c = text_long max_bytes (log_lines (job_of c.args.job.now)) _ (omega arith)

pub returns-in_err-said : goal.returns-in_err-said
returns-in_err-said c = let s = c.args.text.now in
    let lines = log_lines (job_of c.args.job.now) in
    let p = err_from_is_err_and c.from_residual.result c.from_residual.ensures.1 in
    rw (p.1, p.2) (whole_fault lines s c.of-lines.result c.read_log_lines.new.lines c.of-lines.ensures.rest c.of-lines.ensures.line c.in_err-said.field-0.0 c.in_err-said.ensures ∙ text_fits max_bytes lines s (omega arith))

pub returns-in_err-end : goal.returns-in_err-end
returns-in_err-end c = let s = c.args.text.now in
    let lines = log_lines (job_of c.args.job.now) in
    let p = err_from_is_err_and c.from_residual-in_err-end.result c.from_residual-in_err-end.ensures.1 in
    rw (p.1, p.2) (whole_more lines s c.of-lines.result c.read_log_lines.new.lines c.of-lines.ensures.rest c.of-lines.ensures.line _ c.in_err-end.field-0.0 c.in_ok-said.ensures c.in_err-end.ensures ∙ text_fits max_bytes lines s (omega arith))

pub returns : goal.returns
returns c = let s = c.args.text.now in
    let lines = log_lines (job_of c.args.job.now) in
    whole_value lines s c.of-lines.result c.read_log_lines.new.lines c.of-lines.ensures.rest c.of-lines.ensures.line (said c.args.job.now c.in_ok-said.said) c.in_ok-said.ensures c.in_ok-end.ensures ∙ text_fits max_bytes lines s (omega arith)
