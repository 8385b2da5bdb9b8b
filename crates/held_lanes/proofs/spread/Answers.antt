-- `spread` reads each lane's mask off its four's.
use Rattle.std.proofs.Common.{rules, ◌≡◌, Bool, cond, ◌+◌, ◌*◌, ◌/◌, ◌%◌, ◌^◌, ◌∙◌, ap, arith, get_or}
use Rattle.lane_rows.specs.Layout.{inf}
use Rattle.held_lanes.specs.Places.{mask_base}
use Rattle.held_lanes.proofs.Sets.{bit_in_four}
use Rattle.held_lanes.proofs.spread.Goals as goal

pub returns : goal.returns
returns c = let a = c.args in record {
  size = c.turn.ensures.size;
  lanes = λ q l.
      let s = a.set / 2 ^ (q / 4 * 4) % 16 in
      let p = c.turn.ensures.lanes q l in
      let e : get_or c.turn.new.acc q 0 ≡ get_or a.u.now (mask_base + s * 4 + q % 4) 0 = search rules in
      e ∙ c.requires.masks s (q % 4) (omega arith) (omega arith) ∙ ap (λ (x : Bool). cond x inf 0) (bit_in_four q a.set (omega (arith, l, c.requires.few)));
}
