-- `fault_span`: what follows the lines before the asked one is known of `skip_lines`; the line's length of `line_length`.
use Rattle.std.proofs.Common.{arith, ◌-◌, length, ap, sym, ◌∙◌}
use borrow.Author.Tests.{eqb-true, eqb-false}
use Rattle.fault_lines.specs.Fault.{span_in}
use Rattle.fault_lines.proofs.Breaks.{span_zero, span_is, span_missing, span_there, skipped_le}
use Rattle.fault_lines.proofs.fault.fault_span.Goals as goal

pub returns-then-line-eq0 : goal.returns-then-line-eq0
returns-then-line-eq0 c = span_zero _ _ c.if-line-eq0.true

pub returns-then-is_empty : goal.returns-then-is_empty
returns-then-is_empty c = let s = c.args.text.now in
    let rest = c.skip_lines-rest in
    span_missing s rest.result.now (eqb-true _ _ (sym c.if-is_empty.ensures)) ∙ ap (span_in s) rest.ensures ∙ sym (span_is s _ c.if-line-eq0.false)

pub overflow_sub-result : goal.overflow_sub-result
overflow_sub-result c = omega (arith, ap length c.skip_lines-rest.ensures, skipped_le (c.args.line - 1) c.args.text.now)

pub returns : goal.returns
returns c = let s = c.args.text.now in
    let rest = c.skip_lines-rest in
    span_there s rest.result.now _ (eqb-false _ _ (sym c.if-is_empty.ensures)) c.line_length.ensures ∙ ap (span_in s) rest.ensures ∙ sym (span_is s _ c.if-line-eq0.false)
