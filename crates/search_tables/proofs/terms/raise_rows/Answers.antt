-- `raise_rows` takes the larger of each number and the part's.
use Prim.Native.Nat.{ℕ, ◌+◌, max}
use lib.ListN.{get_or}
use Rattle.std.proofs.Common.{rules}
use Rattle.lane_rows.specs.Layout.{triangle}
use Rattle.search_tables.specs.Fill.{step_place, own_of}
use Rattle.search_tables.proofs.terms.raise_rows.Goals as goal

pub returns : goal.returns
returns c = let a = c.args in
    c.turn_rows.ensures (λ (j i : ℕ). max (get_or a.t.now (step_place a.base a.stride (triangle j + i)) 0) (own_of a.tab.now j i)) (λ j i v x l p. search rules)
