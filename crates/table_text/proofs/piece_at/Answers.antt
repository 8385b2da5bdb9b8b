-- `piece_at`: the bytes behind the line are there, or they are not, by the test of their end.
use Prim.Native.Nat.{◌+◌}
use native.Mathlib.Omega.{arith}
use borrow.Author.Tests.{le-leb, lt-leb}
use lib.ListN.{length}
use Rattle.table_text.proofs.piece_at.Goals as goal

pub returns-then-length-table : goal.returns-then-length-table
returns-then-length-table c = let t = c.args.table.now in
    let h = c.head_at-head in
    (rw (← h.ensures.0, le-leb (h.result.behind + h.result.number) (length t) (omega (arith, h.ensures.1))), omega (arith, h.ensures.1))

pub returns : goal.returns
returns c = let t = c.args.table.now in
    let h = c.head_at-head in
    (rw (← h.ensures.0, lt-leb (h.result.behind + h.result.number) (length t) (omega (arith, h.ensures.1))), omega arith)
