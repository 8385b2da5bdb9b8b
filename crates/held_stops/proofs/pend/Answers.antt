-- `pend` leaves a row that is ready, and finds any other.
use mathlib.Core.Path.{refl, sym, ◌∙◌}
use native.Mathlib.Omega.{arith}
use lib.ListN.{length-set}
use lib.Seq.{get_or-set_same, get_or-set_other}
use Rattle.held_lanes.specs.Places.{pending_place, ready_place}
use Rattle.held_stops.proofs.pend.Goals as goal

pub returns-then-ready-eq1 : goal.returns-then-ready-eq1
returns-then-ready-eq1 c = let e = sym c.number-ready.ensures.value ∙ c.if-ready-eq1.true in
    record { size = refl; row = c.requires.1 e; ready = e; rest = λ x h g. refl }

pub returns : goal.returns
returns c = let p = c.requires.0 in
    let v = c.pend_row.new.v in
    let n = c.args.rows in
    let f = c.pend_row.ensures in
    record {
      size = length-set v (ready_place n) 1 ∙ f.size;
      row = λ q l. get_or-set_other v (ready_place n) (pending_place n q) 1 0 (λ z. omega (arith, z, p.few, p.stack.narrow)) ∙ f.done q l;
      ready = get_or-set_same v (ready_place n) 1 0 (omega (arith, f.size, p.few));
      rest = λ x h g. get_or-set_other v (ready_place n) x 1 0 g ∙ f.rest x (λ q l z. h q (omega (arith, p.stack.narrow)) z);
    }
