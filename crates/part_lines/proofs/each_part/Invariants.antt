use Prim.Native.Nat.{ℕ, ◌<◌, ◌≤◌}
use mathlib.Core.Path.{◌≡◌}
use lib.ListN.{get_or}
use Rattle.jobs.specs.Views.{blank_part_lem}
use Rattle.part_lines.specs.Views.{blank_said}
use Rattle.part_lines.proofs.each_part.Given as goal

abbrev pub invariant-loop-q : goal.invariant-loop-q
invariant-loop-q g l =
    ((q : ℕ) → q < l.q → goal.F-post g l.changed (get_or l.said q blank_said) (get_or l.initial.part-items q blank_part_lem) (get_or l.part-items q blank_part_lem))
    × ((q : ℕ) → l.q ≤ q → get_or l.part-items q blank_part_lem ≡ get_or l.initial.part-items q blank_part_lem)
