-- `raise` turns each lane by itself.
use Prim.Native.Nat.{ℕ, ◌+◌, ◌*◌}
use mathlib.Core.Path.{◌≡◌, ap, ◌∙◌}
use native.Mathlib.Omega.{arith}
use lib.ListN.{get_or}
use Rattle.std.proofs.Common.{rules}
use Rattle.lane_rows.specs.Layout.{lane_count_lem, suffix_base, place}
use Rattle.free_sources.specs.Free.{higher}
use Rattle.free_sources.proofs.raise.Goals as goal

pub returns : goal.returns
returns c = record {
  size = c.turn.ensures.size;
  lanes = λ q l. let p = c.turn.ensures.lanes q l in
      let a = c.args in
      let z : (c.row_of.result + a.m) * lane_count_lem + q ≡ place suffix_base a.level a.m q = omega (arith, c.row_of.ensures.rows) in
      let y : get_or c.turn.new.acc q 0 ≡ higher (get_or a.acc.now q 0) (get_or a.t.now ((c.row_of.result + a.m) * lane_count_lem + q) 0) = search rules in
      y ∙ ap (λ (i : ℕ). higher (get_or a.acc.now q 0) (get_or a.t.now i 0)) z;
}
