use Prim.Native.Nat.{◌<◌, ◌+◌, ◌^◌}
use mathlib.Core.Path.{◌≡◌}
use lib.ListN.{length}
use lib.Seq.{sets}
use Rattle.line_writing.specs.Padded.{padded}
use Rattle.line_writing.proofs.output.Out.put_digits.Given as goal

abbrev pub invariant-loop-k : goal.invariant-loop-k
invariant-loop-k l = let o = l.self in let p = l.initial.self in record {
  slice : o.bytes.ghost_name ≡ p.bytes.ghost_name;
  rest : l.rest < 10 ^ l.k;
  place : o.at + l.k ≡ p.at + l.count;
  size : length o.bytes.now ≡ length p.bytes.now;
  written : sets o.bytes.now o.at (padded l.k l.rest) ≡ sets p.bytes.now p.at (padded l.count l.n);
}
