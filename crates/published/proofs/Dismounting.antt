-- The parts that come out at an opening are the least set that Model S1 of source 001 lets be dismounted there; so a plan's cost is its least cost in S1. By the chains of holders.
use mathlib.Core.Path.{◌≡◌, sym, ◌∙◌}
use mathlib.Core.Bool.{Bool, true, false}
use mathlib.Core.List.{List, map}
use Prim.Native.Nat.{ℕ, ◌+◌, ◌≤◌, ◌<◌}
use native.Mathlib.Omega.{arith}
use lib.ListN.{length, get_or}
use Rattle.model.specs.Model.{Job, Plan, comes_out, Chain, itself, by_holder, out_at, sum_at, sum, fee_of, removal_of_lem, prices_of_lem, cost_of_lem}
use Rattle.published.specs.Dismounting.{Dismounts}
use Rattle.base.proofs.Bools.{inside}
use Rattle.model.proofs.Sums.{sum_mono}
use Rattle.model.proofs.Closure.{out_length, chained, chain_more, chain_inside, comes_itself}
use Rattle.model.proofs.Outs.{outs_length, brought, brings}
use Rattle.model.proofs.Under.{under_of, under_sum}

module _ (job : Job) (changes : List (List Bool)) (k : ℕ) where
  -- they may be dismounted
  pub out_dismounts : Dismounts job changes k (out_at job changes k)
  out_dismounts = record {
    size = outs_length job changes k;
    replaced = λ i l t. brings job changes k i i l t (comes_itself job i l);
    embedded = λ i j l h e.
        let b = brought job changes k i e in
        let i_in : i < length job.parts = omega (arith, inside (comes_out job b.0) i b.3, out_length job b.0) in
        brings job changes k b.0 j b.1 b.2 ((chained job b.0 j b.1 l).1 (chain_more job j ((chained job b.0 i b.1 i_in).0 b.3) h));
  }

  module _ (out : List Bool) (d : Dismounts job changes k out) where
    along : {i j : ℕ} → Chain job i j → j < length job.parts → get_or out i false ≡ true → get_or out j false ≡ true
    along itself l e = e
    along {i} (by_holder {j = n} h c) l e = along c l (d.embedded i n (chain_inside job c l) h e)

    -- and every set that may be has them in it
    pub out_least : (j : ℕ) → get_or (out_at job changes k) j false ≡ true → get_or out j false ≡ true
    out_least j e =
        let b = brought job changes k j e in
        let j-in : j < length job.parts = omega (arith, inside (comes_out job b.0) j b.3, out_length job b.0) in
        along ((chained job b.0 j b.1 j-in).0 b.3) j-in (d.replaced b.0 b.1 b.2)

-- S1's cost of a plan with these sets dismounted is no less than its cost
pub cost_least : (job : Job) (plan : Plan) (outs : ℕ → List Bool) → ((k : ℕ) → k < length job.openings → Dismounts job plan.changes k (outs k))
    → cost_of_lem job plan ≤ sum_at (map fee_of job.openings) plan.stops + prices_of_lem job.parts plan.changes + sum 0 (length job.openings) (λ k. sum_at (map removal_of_lem job.parts) (outs k))
cost_least job plan outs d =
    let l = sum_mono (length job.openings) 0 (λ k. sum_at (map removal_of_lem job.parts) (out_at job plan.changes k)) (λ k. sum_at (map removal_of_lem job.parts) (outs k))
    (λ k _ l. let l' : k < length job.openings = omega arith in under_sum (map removal_of_lem job.parts)
    (under_of (out_at job plan.changes k) (outs k) (outs_length job plan.changes k ∙ sym (d k l').size) (out_least job plan.changes k (outs k) (d k l')))) in
    omega arith
