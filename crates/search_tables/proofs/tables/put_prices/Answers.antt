-- `put_prices` writes a lane's prices, which stand a row of lanes apart.
use Prim.Native.Nat.{ℕ}
use native.Mathlib.Omega.{arith}
use lib.ListN.{get_or}
use Rattle.std.proofs.Common.{rules}
use Rattle.search_tables.proofs.Apart.{row_as}
use Rattle.search_tables.proofs.tables.put_prices.Goals as goal

pub returns : goal.returns
returns c = row_as (λ j. omega arith) (c.turn_row.ensures (λ (j : ℕ). get_or c.args.prices.now j 0) (λ j v l p. search rules))
