-- `put_terms` makes the terms by classes. The invariant: they are the largest over the first q parts.
use Rattle.std.proofs.Common.{◌≡◌, ◌<◌, ◌*◌, ◌∙◌, ℕ, refl, sym, subst, length, get_or, take, length-take-le, arith}
use lib.Seq.{get_or-take}
use Rattle.search_tables.specs.Arrays.{lane_part, column_of, fours_of_lem, sheet_of}
use Rattle.search_tables.proofs.Apart.{row_as}
use Rattle.held_rows.specs.Held.{HeldColumn, no_lane}
use Rattle.held_tables.specs.Sheet.{lanes_of}
use Rattle.held_tables.specs.Fill.{Raised, Terms}
use Rattle.held_tables.proofs.Lanes.{lane_at, lanes_length, lanes_at}
use Rattle.held_tables.proofs.Raising.{raised_in, terms_none, terms_more}
use Rattle.held_tables.proofs.terms.put_terms.Goals as goal

pub loop-q-init : goal.loop-q-init
loop-q-init c = let n = c.args.numbers.now in (
  refl,
  terms_none (sheet_of n.job.end n.job.positions.now n.job.fees.now n.job.lives.now n.job.lefts.now n.job.prices.now) n.job.arrays.few
      (lanes_of n.job.positions.now n.job.lives.now n.job.lefts.now n.job.prices.now c.args.classes.now.lanes) c.args.u.now c.clear.new.t (omega arith) (row_as (λ y. omega arith) c.clear.ensures),
)

pub raise_part-requires : goal.raise_part-requires
raise_part-requires c = let l = c.loop-q in
    let n = c.args.numbers.now in
    let k = c.args.classes.now in
    let h : l.q < length n.job.lives.now = omega (arith, length-take-le (length n.job.lives.now) k.lanes (omega (arith, n.job.arrays.lanes, k.led.size))) in
    record { own = omega (arith, c.requires, l.invariant.0); room = omega (arith, get_or-take (length n.job.lives.now) k.lanes l.q 0 h, k.led.class l.q); apart = omega arith }

pub loop-q-preserved : goal.loop-q-preserved
loop-q-preserved c = let n = c.args.numbers.now in
    let r = n.job.arrays in
    let l = c.loop-q in
    let cs = c.args.classes.now.lanes in
    let m = length n.job.positions.now in
    let k = fours_of_lem (length n.job.lives.now) * 4 in
    let lanes = lanes_of n.job.positions.now n.job.lives.now n.job.lefts.now n.job.prices.now cs in
    let sheet = sheet_of n.job.end n.job.positions.now n.job.fees.now n.job.lives.now n.job.lefts.now n.job.prices.now in
    let p = c.raise_part in
    let q : l.q < length n.job.lives.now = omega (arith, length-take-le (length n.job.lives.now) cs (omega (arith, r.lanes, c.args.classes.now.led.size))) in
    let h : l.q < k = omega (arith, q) in
    let is : get_or lanes l.q no_lane ≡ lane_at m n.job.lives.now n.job.lefts.now n.job.prices.now cs l.q = lanes_at m n.job.lives.now n.job.lefts.now n.job.prices.now cs k l.q h in (
      p.auto.tab ∙ l.invariant.0,
      terms_more sheet r.few lanes l.u p.new.t l.q (omega (arith, h, lanes_length m n.job.lives.now n.job.lefts.now n.job.prices.now cs 0 k)) r.fair
          (subst (λ (x : HeldColumn). Raised sheet x.column x.class l.u p.new.t) (sym is)
          (subst (λ (x : ℕ). Raised sheet (lane_at m n.job.lives.now n.job.lefts.now n.job.prices.now cs l.q).column x l.u p.new.t) (get_or-take (length n.job.lives.now) cs l.q 0 q)
          (raised_in sheet r.few (column_of (lane_part m n.job.lives.now n.job.lefts.now n.job.prices.now l.q)) (get_or (take (length n.job.lives.now) cs) l.q 0) l.u p.new.t (omega (arith, get_or-take (length n.job.lives.now) cs l.q 0 q, c.args.classes.now.led.class l.q)) p.ensures))) l.invariant.1,
    )

pub returns : goal.returns
returns c = let n = c.args.numbers.now in
    let l = c.loop-q in
    let cs = c.args.classes.now in
    let z : l.q ≡ length n.job.lives.now = omega (arith, length-take-le (length n.job.lives.now) cs.lanes (omega (arith, n.job.arrays.lanes, cs.led.size))) in
    subst (Terms (sheet_of n.job.end n.job.positions.now n.job.fees.now n.job.lives.now n.job.lefts.now n.job.prices.now) (lanes_of n.job.positions.now n.job.lives.now n.job.lefts.now n.job.prices.now cs.lanes) l.u) z l.invariant.1
