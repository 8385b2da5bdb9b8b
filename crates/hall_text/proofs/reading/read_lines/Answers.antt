-- `read_lines`: the first job, and those behind it.
use Prim.Native.Nat.{◌-◌}
use mathlib.Core.Path.{refl, sym, ◌∙◌}
use native.Mathlib.Omega.{arith}
use Rattle.std.proofs.lemmas.Result.{err_from_is_err_and}
use Rattle.hall_grammar.specs.Reading.{no_lines}
use Rattle.hall_jobs.specs.Views.{hall_of}
use Rattle.hall_text.proofs.Steps.{onward_read, onward_fault}
use Rattle.hall_text.proofs.reading.read_lines.Goals as goal

pub returns-in_err-first : goal.returns-in_err-first
returns-in_err-first c = let p = err_from_is_err_and c.from_residual.result c.from_residual.ensures.1 in
    rw (p.1, p.2) (onward_fault _ _ (c.args.n - 1) (no_lines c.args.call) _ c.args.lines.now c.args.lines.now (omega arith) refl c.in_err-first.field-0.0 c.in_err-first.ensures.reads)

pub returns : goal.returns
returns c = c.read_more.ensures
    ∙ sym (onward_read c.args.n _ (c.args.n - 1) (no_lines c.args.call) _ c.args.lines.now c.args.lines.now (omega arith) refl (hall_of c.in_ok-first.first.hall) c.read_first.new.lines c.in_ok-first.ensures.reads)
