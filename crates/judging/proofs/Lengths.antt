-- The lines of a judgement fit the room. By the keys, and the digits that a number can have.
use Prim.Native.Nat.{ℕ, ◌≤◌}
use native.Mathlib.Omega.{arith}
use lib.ListN.{length, length-append}
use Rattle.lines.specs.Text.{bytes}
use Rattle.lines.proofs.Writing.{line_most}
use Rattle.model.specs.Verdict.{Judgement, accepts, unkept, wrong_cost}
use Rattle.judging.specs.Judge.{cost_lines, unkept_lines, judge_lines}

-- the lines of a judgement with a cost have at most 34 bytes
pub cost_short : (n c : ℕ) → length (cost_lines n c) ≤ 34
unfolding cost_lines bytes
cost_short n c = simp length-append (omega (arith, line_most (bytes "result=") n, line_most (bytes "cost=") c))

-- the lines of a judgement that a part is not kept have at most 50 bytes
pub unkept_short : (p d : ℕ) → length (unkept_lines p d) ≤ 50
unfolding unkept_lines bytes
unkept_short p d = simp length-append (omega (arith, line_most (bytes "result=") 10, line_most (bytes "part=") p, line_most (bytes "due=") d))

-- the lines of any judgement have at most 50 bytes
pub lines_short : (j : Judgement) → length (judge_lines j) ≤ 50
lines_short (accepts c) = omega (arith, cost_short 0 c)
lines_short (unkept p d) = unkept_short p d
lines_short (wrong_cost c) = omega (arith, cost_short 11 c)
