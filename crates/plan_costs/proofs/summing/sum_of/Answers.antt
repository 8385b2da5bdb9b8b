-- `sum_of`: the sum so far is that over the places before k.
use Prim.Native.Nat.{ℕ}
use mathlib.Core.Path.{◌≡◌, ap, ◌∙◌}
use native.Mathlib.Omega.{arith}
use Rattle.model.specs.Model.{sum}
use Rattle.plan_costs.proofs.Sums.{sum_zero, sum_next}
use Rattle.plan_costs.proofs.summing.sum_of.Goals as goal

pub loop-k-init : goal.loop-k-init
loop-k-init g c = (omega arith, λ f said. sum_zero f)

pub loop-k-preserved : goal.loop-k-preserved
loop-k-preserved g c = let l = c.loop-k in
    let t = c.loop-k-test.true in (
      omega (arith, c.requires.small l.k _ t c.value-paid.ensures, l.invariant.0),
      λ f said. sum_next l.k l.paid _ f (l.invariant.1 f said) (said l.k _ t c.value-paid.ensures),
    )

pub returns : goal.returns
returns g c f said = let z : c.loop-k.k ≡ c.args.n = omega arith in
    c.loop-k.invariant.1 f said ∙ ap (λ (k : ℕ). sum 0 k f) z
