-- `skip_lines`: behind some lines, the lines still to skip are those of the whole less these.
use Rattle.std.proofs.Common.{arith, ◌+◌, length-drop, sym, ◌∙◌}
use native.Mathlib.Nat.{sub-zero}
use Rattle.lines.proofs.Reading.{rest_of}
use Rattle.fault_lines.proofs.Breaks.{skipped_more, skipped_end, skipped_zero}
use Rattle.fault_lines.proofs.fault.skip_lines.Goals as goal

pub loop-init : goal.loop-init
loop-init c = record { short = omega arith; left = rw sub-zero }

pub returns-then-rest-n : goal.returns-then-rest-n
returns-then-rest-n c = let l = c.loop in
    skipped_end l.rest.now c.line_length-n.result c.args.k l.counter c.loop-test.true c.line_length-n.ensures c.if-rest-n.true ∙ sym l.invariant.left

pub loop-preserved : goal.loop-preserved
loop-preserved c = let l = c.loop in
    let n = c.line_length-n.result in
    rw rest_of (record {
      short = omega (arith, l.invariant.short, length-drop (n + 1) l.rest.now);
      left = l.invariant.left ∙ skipped_more l.rest.now n c.args.k l.counter c.loop-test.true c.line_length-n.ensures;
    })

pub returns : goal.returns
returns c = let l = c.loop in sym (l.invariant.left ∙ skipped_zero l.rest.now c.args.k l.counter c.loop-test.false)
