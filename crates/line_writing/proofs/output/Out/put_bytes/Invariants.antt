use Prim.Native.Nat.{◌+◌}
use mathlib.Core.Path.{◌≡◌}
use lib.ListN.{take}
use Rattle.lines.specs.Wrote.{Wrote}
use Rattle.line_writing.proofs.output.Out.put_bytes.Given as goal

abbrev pub invariant-loop-i : goal.invariant-loop-i
invariant-loop-i l = let o = l.self in let p = l.initial.self in record {
  slice : o.bytes.ghost_name ≡ p.bytes.ghost_name;
  place : o.at ≡ p.at;
  wrote : Wrote p.bytes.now p.at (take l.i l.src) o.bytes.now (p.at + l.i);
}
