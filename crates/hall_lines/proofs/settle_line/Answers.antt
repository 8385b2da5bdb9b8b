-- `settle_line` settles the stop, and writes the line's next level.
use Prim.Native.Nat.{◌+◌}
use mathlib.Core.Path.{◌≡◌}
use native.Mathlib.Omega.{arith}
use borrow.Author.Rules.{rules}
use lib.ListN.{length}
use Rattle.hall_lines.proofs.Levels.{level_put}
use Rattle.hall_lines.proofs.Lines.{settle_needs, settle_near, line_settled}
use Rattle.hall_lines.proofs.settle_line.Goals as goal

pub settle_stop-requires : goal.settle_stop-requires
settle_stop-requires c = settle_needs c.requires.1.1.1

pub returns : goal.returns
returns c = let a = c.args in
    let long : length a.own.now.n ≡ 65 = search rules in
    λ sheet ds paid de. line_settled de c.settle_stop.new.w c.settle_stop.new.v _ c.settle_stop.ensures.put c.settle_stop.ensures.noted (level_put a.own.now.n (a.at + 1) _ (omega (arith, settle_near de, long)))
