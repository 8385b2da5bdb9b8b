-- `put_suffixes` copies a part's suffix table into its lane, whose numbers stand a row of lanes apart.
use native.Mathlib.Omega.{arith}
use Rattle.std.proofs.Common.{rules}
use Rattle.search_tables.specs.Fill.{own_of}
use Rattle.search_tables.proofs.Apart.{triangle_as}
use Rattle.search_tables.proofs.tables.put_suffixes.Goals as goal

pub returns : goal.returns
returns c = triangle_as (λ j i. omega arith) (c.turn_rows.ensures (own_of c.args.tab.now) (λ j i v x l p. search rules))
