-- `read_more`: what is read so far stands before what the grammar still reads.
use Prim.Native.Nat.{◌+◌, ◌-◌}
use mathlib.Core.Path.{refl}
use native.Mathlib.Omega.{arith}
use Rattle.std.proofs.lemmas.Result.{err_from_is_err_and}
use Rattle.hall_text.proofs.Steps.{onward_read, onward_fault, onward_all}
use Rattle.hall_text.proofs.reading.read_more.Goals as goal

pub loop-init : goal.loop-init
loop-init c = record { size = c.requires.0; read = refl }

pub loop-preserved : goal.loop-preserved
loop-preserved c = let l = c.loop in
    record {
      size = omega (arith, l.invariant.size, c.in_ok-sofar.ensures.longer);
      read = onward_read _ _ (c.args.n - (l.counter + 1)) _ _ c.args.lines.now l.lines (omega (arith, c.loop-test.true)) l.invariant.read _ c.read_next.new.lines c.in_ok-sofar.ensures.reads;
    }

pub returns-in_err-sofar : goal.returns-in_err-sofar
returns-in_err-sofar c = let l = c.loop in
    let p = err_from_is_err_and c.from_residual.result c.from_residual.ensures.1 in
    rw (p.1, p.2) (onward_fault _ _ (c.args.n - (l.counter + 1)) _ _ c.args.lines.now l.lines (omega (arith, c.loop-test.true)) l.invariant.read c.in_err-sofar.field-0.0 c.in_err-sofar.ensures.reads)

pub returns : goal.returns
returns c = let l = c.loop in onward_all _ _ _ _ c.args.lines.now l.lines (omega (arith, c.loop-test.false)) l.invariant.read
