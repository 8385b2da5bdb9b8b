-- `settle_stop` finds the row of the stop if need be, writes it, and notes the marks and the removals.
use Prim.Native.Nat.{ℕ, ◌-◌}
use mathlib.Core.Path.{ap, ◌∙◌}
use mathlib.Core.Bool.{cond}
use native.Mathlib.Omega.{arith}
use lib.ListN.{get_or, length-set}
use lib.Seq.{get_or-set_same, get_or-set_other}
use Rattle.lane_rows.specs.Layout.{inf}
use Rattle.held_lanes.specs.Places.{bit_at, offset, lead_place, last_place, removed_place, pending_place}
use Rattle.held_stops.proofs.settle_stop.Goals as goal

pub put_stop-requires : goal.put_stop-requires
put_stop-requires c = let p = c.requires.0 in
    let o = p.owing in (
      record { some = o.stack.some; narrow = o.stack.narrow; masks = p.notes.masks; few = o.few },
      omega (arith, o.stack.few, p.later),
      p.near,
    )

pub returns : goal.returns
returns c = let a = c.args in
    let p = c.requires.0 in
    let pe = c.pend.ensures in
    let pu = c.put_stop.ensures in
    let no = c.note_lasts.ensures in
    let v = c.note_lasts.new.v in
    let u = a.u.now in
    let place = removed_place (a.at - 1) in
    let row = p.notes.row in
    let few = p.notes.few in
    let near = p.near in
    let narrow = p.owing.stack.narrow in record {
      put = record {
        put = record { kept = pu.put.kept; row = λ q l. pu.put.row q l ∙ ap (cond (bit_at q a.set) inf) (pe.row q l); mark = pu.put.mark };
        memo = pu.memo;
      };
      noted = record {
        size = length-set v place a.removed ∙ no.size ∙ pe.size;
        lasts = λ i l.
            get_or-set_other v place (last_place a.rows i) a.removed 0 (λ z. omega (arith, z, row, few))
            ∙ no.done i l
            ∙ ap (λ (y : ℕ). cond (bit_at (get_or u (lead_place i) 0) a.set) y (offset a.at i)) (pe.rest (last_place (a.rows - 1) i) (λ q h z. omega (arith, z, row, few)) (λ z. omega (arith, z, row, few)));
        removals = get_or-set_same v place a.removed 0 (omega (arith, no.size, pe.size, near));
        row = λ q l.
            get_or-set_other v place (pending_place a.rows q) a.removed 0 (λ z. omega (arith, z, near)) ∙ no.rest (pending_place a.rows q) (λ i h z. omega (arith, z, few, row)) ∙ pe.row q l;
        rest = λ x f g h e. get_or-set_other v place x a.removed 0 e ∙ no.rest x (λ i l z. f i (omega (arith, few)) z) ∙ pe.rest x g h;
      };
    }
