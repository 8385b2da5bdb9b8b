-- `put_fault`: its three lines are those of `put_three`.
use Rattle.lines.specs.Text.{bytes}
use Rattle.answers.specs.Said.{fault_lines_lem}
use native.Mathlib.Omega.{arith}
use Rattle.answers.proofs.put_fault.Goals as goal

pub put_three-requires : goal.put_three-requires
unfolding fault_lines_lem bytes
put_three-requires c = rw (c.from.ensures, c.from-2.ensures) (omega (arith, c.ranges.text.fits), omega (arith, c.ranges.line.fits), c.requires)

pub returns : goal.returns
unfolding fault_lines_lem bytes
returns c = rw (← c.from.ensures, ← c.from-2.ensures) c.put_three.ensures
