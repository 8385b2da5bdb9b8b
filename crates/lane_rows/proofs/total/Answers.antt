-- `total` is the sum of the lanes: four sums, of every fourth lane, stay within 32 bits. The invariant: the first fours are in them.
use Prim.Native.Nat.{ℕ, ◌+◌, ◌*◌}
use mathlib.Core.Path.{◌≡◌, refl, ap, subst, ◌∙◌}
use native.Mathlib.Omega.{arith}
use lib.ListN.{get_or}
use Rattle.lane_rows.specs.Rows.{sum_from, sum_lanes}
use Rattle.lane_rows.proofs.Lanes.{sum_four}
use Rattle.lane_rows.proofs.total.Goals as goal

pub loop-k-init : goal.loop-k-init
unfolding sum_from
loop-k-init c = record { inside = omega arith; first = omega arith; second = omega arith; third = omega arith; fourth = omega arith; all = refl }

pub overflow_add-a : goal.overflow_add-a
overflow_add-a c = omega (arith, c.loop-k.invariant.first, c.loop-k.invariant.inside, c.requires.2 (c.loop-k.k * 4) (omega arith), c.requires.0)

pub overflow_add-b-in-loop-k : goal.overflow_add-b-in-loop-k
overflow_add-b-in-loop-k c = omega (arith, c.loop-k.invariant.second, c.loop-k.invariant.inside, c.requires.2 (c.loop-k.k * 4 + 1) (omega arith), c.requires.0)

pub overflow_add-c-in-loop-k : goal.overflow_add-c-in-loop-k
overflow_add-c-in-loop-k c = omega (arith, c.loop-k.invariant.third, c.loop-k.invariant.inside, c.requires.2 (c.loop-k.k * 4 + 2) (omega arith), c.requires.0)

pub overflow_add-d-in-loop-k : goal.overflow_add-d-in-loop-k
overflow_add-d-in-loop-k c = omega (arith, c.loop-k.invariant.fourth, c.loop-k.invariant.inside, c.requires.2 (c.loop-k.k * 4 + 3) (omega arith), c.requires.0)

pub loop-k-preserved : goal.loop-k-preserved
loop-k-preserved c = let l = c.loop-k in
    let f : ℕ → ℕ = λ q. get_or c.args.acc.now q 0 in
    let z : l.k * 4 + 4 ≡ (l.k + 1) * 4 = omega arith in
    record {
      inside = omega arith;
      first = omega (arith, l.invariant.first, c.requires.2 (l.k * 4) (omega arith));
      second = omega (arith, l.invariant.second, c.requires.2 (l.k * 4 + 1) (omega arith));
      third = omega (arith, l.invariant.third, c.requires.2 (l.k * 4 + 2) (omega arith));
      fourth = omega (arith, l.invariant.fourth, c.requires.2 (l.k * 4 + 3) (omega arith));
      all = omega (arith, l.invariant.all, sum_four f l.k, ap (λ (x : ℕ). sum_lanes x f) z);
    }

pub returns : goal.returns
returns c = let l = c.loop-k in
    let a = c.args in
    let z : l.k ≡ a.fours = omega (arith, l.invariant.inside) in
    let s : c.from.result + c.from-2.result + c.from-3.result + c.from-4.result ≡ l.a + l.b + l.c + l.d = omega (arith, c.from.ensures, c.from-2.ensures, c.from-3.ensures, c.from-4.ensures) in
    s ∙ subst (λ (k : ℕ). l.a + l.b + l.c + l.d ≡ sum_lanes (k * 4) (λ (q : ℕ). get_or a.acc.now q 0)) z l.invariant.all
