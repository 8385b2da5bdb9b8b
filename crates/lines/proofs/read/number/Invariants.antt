use Prim.Native.Nat.{◌<◌, ◌^◌}
use mathlib.Core.Path.{◌≡◌}
use lib.ListN.{drop}
use Rattle.lines.specs.Line.{digits, number_from}
use Rattle.lines.proofs.read.number.Given as goal

abbrev pub invariant-loop-d : goal.invariant-loop-d
invariant-loop-d l = (digits (drop l.d-index l.ds) ≡ drop l.d-index l.ds) × (l.v < 10 ^ l.d-index) × (number_from 0 l.ds ≡ number_from l.v (drop l.d-index l.ds))
