use Rattle.std.proofs.Common.{◌≡◌, ◌<◌, ◌≤◌, ℕ, get_or, length}
use Rattle.lane_rows.specs.Layout.{reach_base}
use Rattle.ascent_lanes.specs.Tables.{FirstMark}
use Rattle.ascent_lanes.proofs.first_marks.Given as goal

abbrev pub invariant-loop-k : goal.invariant-loop-k
invariant-loop-k l = record {
  size : length l.firsts ≡ 65;
  done : (k : ℕ) → k < l.k → FirstMark l.t reach_base k l.parts (get_or l.firsts k 0);
  rest : (k : ℕ) → l.k ≤ k → get_or l.firsts k 0 ≡ 0;
}
