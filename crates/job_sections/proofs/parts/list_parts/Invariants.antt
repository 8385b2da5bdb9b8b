use Prim.Native.Nat.{◌+◌}
use mathlib.Core.Path.{◌≡◌}
use mathlib.Core.List.{map}
use lib.ListN.{length, take}
use Rattle.lines.proofs.Steps.{Chained}
use Rattle.jobs.specs.Views.{part_of_lem}
use Rattle.part_lines.specs.Grammar.{part, following}
use Rattle.part_lines.specs.Views.{parts_lines}
use Rattle.job_sections.specs.Views.{Meant}
use Rattle.job_sections.proofs.parts.list_parts.Given as goal

abbrev pub invariant-loop-i : goal.invariant-loop-i
invariant-loop-i l = record {
  said : length l.said ≡ 16;
  parts : length l.parts ≡ 16;
  means : Meant l.n l.said l.parts;
  read : Chained (part l.m l.n) following l.m l.i (parts_lines (take l.i l.said) (map (part_of_lem l.n) (take l.i l.parts))) 1 (l.i + 1) l.initial.lines l.lines;
}
