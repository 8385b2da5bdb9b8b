-- `clear` fills one part of the table.
use Prim.Native.Nat.{◌+◌, ◌-◌}
use native.Mathlib.Omega.{arith}
use Rattle.base.proofs.Filled.{filled_with}
use Rattle.search_tables.proofs.rows.clear.Goals as goal

pub returns : goal.returns
returns c = let a = c.args in
    filled_with a.t.now c.fill.new.self 0 a.at a.n (a.at + a.n - a.at) (omega arith) (omega arith) (c.fill.ensures.after (λ y e. e))
