-- `put_reaches` writes a lane's reach, whose numbers stand a row of lanes apart.
use native.Mathlib.Omega.{arith}
use Rattle.std.proofs.Common.{rules}
use Rattle.search_tables.specs.Fill.{reach_of}
use Rattle.search_tables.proofs.Apart.{triangle_as}
use Rattle.search_tables.proofs.tables.put_reaches.Goals as goal

pub returns : goal.returns
returns c = let s = c.args.part.now in
    triangle_as (λ j i. omega arith) (c.turn_rows.ensures (reach_of s.life s.first s.positions.now) (λ j i v x l p. search rules))
