-- The prices of a job's parts, as a sum over them, and how much they can be.
use Prim.Native.Nat.{ℕ, ◌+◌, ◌*◌, ◌≤◌}
use mathlib.Core.Path.{◌≡◌, refl, sym, ap, ◌∙◌}
use mathlib.Core.Bool.{Bool}
use mathlib.Core.List.{List, [], ◌∷◌}
use native.Mathlib.Omega.{arith}
use native.Mathlib.Nat.{mul-suc}
use lib.ListN.{length, get_or}
use Rattle.model.specs.Model as model
use Rattle.model.specs.Model.{sum, sum_at, prices_of_lem}
use Rattle.model.specs.Verdict.{no_part}
use Rattle.model.proofs.Sums.{sum_none, sum_shift}
use Rattle.base.specs.Each.{All}
use Rattle.jobs.specs.Valid.{ValidPart}
use Rattle.plan_costs.specs.Dearest.{dearest_sum}
use Rattle.plan_costs.proofs.Sums.{sum_most, cheap_prices}

-- the prices of one valid part's changes come to at most 64000000
pub part_most : (n : ℕ) → n ≤ 64 → (p : model.Part) (c : List Bool) → ValidPart n p → sum_at p.prices c ≤ dearest_sum
part_most n few p c h = omega (arith, sum_most p.prices c (cheap_prices p.prices h.prices), h.priced)

-- the prices of some valid parts' changes come to at most 64000000 for each part
pub prices_most : (n : ℕ) → n ≤ 64 → (ps : List model.Part) (cs : List (List Bool)) → All (ValidPart n) ps → prices_of_lem ps cs ≤ dearest_sum * length ps
prices_most n few [] cs h = omega arith
prices_most n few (p ∷ ps) [] h = omega arith
prices_most n few (p ∷ ps) (c ∷ cs) h = omega (arith, part_most n few p c h.0, prices_most n few ps cs h.1, mul-suc dearest_sum (length ps))

-- the prices of each part's changes, as a sum over the parts
pub prices_sum : (ps : List model.Part) (cs : List (List Bool)) → prices_of_lem ps cs ≡ sum 0 (length ps) (λ k. sum_at (get_or ps k no_part).prices (get_or cs k []))
unfolding sum sum_at
prices_sum [] cs = refl
prices_sum (p ∷ ps) [] = sym (sum_none (length (p ∷ ps)) 0)
prices_sum (p ∷ ps) (c ∷ cs) = ap (λ (k : ℕ). sum_at p.prices c + k) (prices_sum ps cs ∙ sym (sum_shift (length ps) 0 (λ k. sum_at (get_or (p ∷ ps) k no_part).prices (get_or (c ∷ cs) k []))))
