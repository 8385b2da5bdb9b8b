use Prim.Native.Nat.{ℕ, ◌*◌, ◌≤◌, ◌<◌}
use mathlib.Core.Path.{◌≡◌}
use Rattle.model.specs.Model.{sum}
use Rattle.plan_costs.specs.Dearest.{dearest_sum}
use Rattle.plan_costs.proofs.summing.sum_of.Given as goal

abbrev pub invariant-loop-k : goal.invariant-loop-k
invariant-loop-k g l = (l.paid ≤ dearest_sum * l.k) × ((f : ℕ → ℕ) → ((k x : ℕ) → k < l.n → goal.F-post g l.value k x → x ≡ f k) → l.paid ≡ sum 0 l.k f)
